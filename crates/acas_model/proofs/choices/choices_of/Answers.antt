use Rattle.std.proofs.Common.{◌≡◌, ◌≢◌, Result, Err, refl}
use Rattle.std.specs.Result.{IsErrAnd}
use Rattle.std.proofs.lemmas.List.{length-map}
use Rattle.std.proofs.lemmas.Result.{err_from_is_err_and}
use Rattle.toml.specs.View.{view}
use Rattle.acas_model.specs.declared.fault.ModelFault.{ModelFault}
use Rattle.acas_model.specs.declared.fault.ModelFault.TheVariants.{Memory}
use Rattle.acas_model.specs.Answers.{Gives}
use Rattle.acas_model.specs.Choices.{choices_of}
use Rattle.acas_model.proofs.choices.choices_of.Goals as goal

-- a reader gives this fault if the rules do, unless it says that memory ran out
out : {X Y : Type 0} (view : X → Y) (r : Result X ModelFault) (f : ModelFault) (rules : Result Y ModelFault)
    → IsErrAnd r (λ e. e ≡ f) → (f ≢ Memory → rules ≡ Err f) → Gives view r rules
out view r f rules is gives = let p = err_from_is_err_and r is in rw (p.1, p.2) gives

pub returns-in_err-some_choice : goal.returns-in_err-some_choice
unfolding choices_of
returns-in_err-some_choice c = out _ _ _ _ c.from_residual-in_err-some_choice.ensures.1 (λ is.
    rw (c.in_ok-items.ensures.value, length-map c.in_ok-items.items.now view, ← c.in_err-some_choice.ensures) refl)

pub returns-in_err-chosen : goal.returns-in_err-chosen
unfolding choices_of
returns-in_err-chosen c = out _ _ _ _ c.from_residual-in_err-chosen.ensures.1 (λ is.
    rw (c.in_ok-items.ensures.value, length-map c.in_ok-items.items.now view, ← c.in_ok-some_choice.ensures)
    (rw (← c.in_ok-names_path.ensures, ← c.bytes.ensures, c.in_err-chosen.ensures.value is) refl))

pub returns-in_err-costs : goal.returns-in_err-costs
unfolding choices_of
returns-in_err-costs c = out _ _ _ _ c.from_residual-in_err-costs.ensures.1 (λ is.
    rw (c.in_ok-items.ensures.value, length-map c.in_ok-items.items.now view, ← c.in_ok-some_choice.ensures)
    (rw (← c.in_ok-names_path.ensures, ← c.bytes.ensures, c.in_ok-chosen.ensures.value, c.in_err-costs.ensures is) refl))

pub returns : goal.returns
unfolding choices_of
returns c =
    rw (c.in_ok-items.ensures.value, length-map c.in_ok-items.items.now view, ← c.in_ok-some_choice.ensures)
    (rw (← c.in_ok-names_path.ensures, ← c.bytes.ensures, c.in_ok-chosen.ensures.value, c.in_ok-costs.ensures)
    (rw (c.in_ok-paired.ensures, c.deref.ensures.value, c.deref-2.ensures.value) refl))
