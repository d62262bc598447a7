-- When what a form stores is there.
use Rattle.std.proofs.Common.{◌≡◌, ◌⊎◌, ⊎_elim, inl, inr, sym, subst}
use Rattle.acas_command.specs.Called.{MayPrint}
use Rattle.acas_command.specs.declared.status.Cause.{Cause}
use Rattle.acas_command.specs.declared.status.Cause.TheVariants.{Done, Output}

-- a run that is done, or whose output failed, may print, or its output failed
pub stores-or-cut : (cause : Cause) → (cause ≡ Done) ⊎ (cause ≡ Output) → (MayPrint cause) ⊎ (cause ≡ Output)
stores-or-cut cause either = ⊎_elim (λ (is : cause ≡ Done). inl (subst MayPrint (sym is) tt)) (λ (is : cause ≡ Output). inr is) either
