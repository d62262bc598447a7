-- What commands that sweep have counted, and the cause that a `?` in one answers.
use Rattle.std.proofs.Common.{◌≡◌, ℕ, ◌+◌, List, Option, Result, Err, IsErrAnd, refl, subst, ◌∙◌, ap}
use Rattle.std.proofs.lemmas.Result.{err_from_is_err_and}
use Rattle.acas_spec.specs.Limits.{IsModel}
use Rattle.acas_spec.specs.Model.{ModelData, entries}
use Rattle.acas_outside.specs.Files.{Files, Given}
use Rattle.acas_sweep.specs.Layers.{backup_count}
use Rattle.acas_command.specs.Answers.{EndsLooking}
use Rattle.acas_command.specs.ModelFile.{IsModelFile}
use Rattle.acas_command.specs.declared.status.Cause.{Cause}
use Rattle.acas_command.specs.declared.status.Cause.TheVariants.{Done}
use Rattle.acas_table_commands.specs.Work.{CountsSweep}

-- the sweep of a model's file that was read
pub counts_sweep : (EndsBefore : Cause → Type 0) (holds : Option Files) (name digest : List ℕ) (m : ModelData) (cause : Cause) (b b' t t' : ℕ) → IsModel m → Given holds name (λ file. IsModelFile file digest m)
    → (cause ≡ Done → b' ≡ b + backup_count m) → (cause ≡ Done → t' ≡ t + entries m.grid) → (EndsBefore cause → b' ≡ b) → (EndsBefore cause → t' ≡ t) → CountsSweep EndsBefore name holds cause b b' t t'
counts_sweep EndsBefore holds name digest m cause b b' t t' within read counted turns no_backups no_turns = record {
  swept = λ done. record { digest = digest; m = m; within = within; says = read; counted = counted done; turns = turns done };
  no_backups = no_backups;
  no_turns = no_turns;
}

-- a command that ended as it looked at its files is not done, and has counted nothing
pub counts_nothing : (EndsBefore : Cause → Type 0) (holds : Option Files) (name : List ℕ) (cause : Cause) (b t : ℕ) → EndsLooking cause → CountsSweep EndsBefore name holds cause b b t t
counts_nothing EndsBefore holds name cause b t looking = record {
  swept = λ done. absurd (subst EndsLooking done looking);
  no_backups = λ ends. refl;
  no_turns = λ ends. refl;
}

pub answered : {T : Type 0} {cause : Cause} (r : Result T Cause) → IsErrAnd r (λ e. e ≡ cause) → r ≡ Err cause
answered r h = let p = err_from_is_err_and r h in p.1 ∙ ap (λ (e : Cause). Err e) p.2
