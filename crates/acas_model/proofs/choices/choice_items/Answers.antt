use Rattle.std.proofs.Common.{false, ◌<◌, length, map, arith}
use Rattle.std.proofs.lemmas.List.{length-map}
use Rattle.std.proofs.lemmas.Result.{err_from_is_err_and}
use Rattle.toml.specs.Data.{boolean}
use Rattle.toml.specs.View.{view}
use Rattle.acas_model.specs.Choices.{choice_items}
use Rattle.acas_spec.proofs.Each.{starts, goes_on, ends, is_done}
use Rattle.acas_model.proofs.choices.choice_items.Goals as goal

pub loop-place-init : goal.loop-place-init
unfolding choice_items
loop-place-init c = rw c.new-chosen.ensures.items (starts _ _)

pub returns-in_err-choice-clause-value : goal.returns-in_err-choice-clause-value
returns-in_err-choice-clause-value c =
    let p = err_from_is_err_and c.from_residual.result c.from_residual.ensures.1 in
    let within : c.loop-place.place < length (map view c.args.items.now) = omega (arith, length-map c.args.items.now view) in
    rw (p.1, p.2) (ends _ _ _ _ (boolean false) _ _ c.loop-place.invariant within (rw (← c.loop-place.invariant.count, ← c.deref.ensures.value) c.in_err-choice.ensures))

pub loop-place-preserved : goal.loop-place-preserved
loop-place-preserved c =
    let within : c.loop-place.place < length (map view c.args.items.now) = omega (arith, length-map c.args.items.now view) in
    goes_on _ _ _ _ _ (boolean false) _ _ c.loop-place.invariant within (rw (← c.loop-place.invariant.count, ← c.deref.ensures.value) c.in_ok-choice.ensures) c.in_ok-push.ensures.items

pub returns-clause-value : goal.returns-clause-value
returns-clause-value c = is_done _ _ _ _ _ c.loop-place.invariant (omega (arith, length-map c.args.items.now view))
