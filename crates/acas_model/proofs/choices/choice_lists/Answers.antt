use Rattle.std.proofs.Common.{◌≡◌, ◌++◌, ◌∷◌, [], false, ◌<◌, length, map, arith}
use Rattle.std.proofs.lemmas.List.{length-map, map_push}
use Rattle.std.proofs.lemmas.Result.{err_from_is_err_and}
use Rattle.toml.specs.Data.{boolean}
use Rattle.toml.specs.View.{view}
use Rattle.acas_model.specs.Choices.{choice_lists}
use Rattle.acas_spec.proofs.Each.{starts, goes_on, ends, is_done}
use Rattle.acas_model.proofs.choices.choice_lists.Goals as goal

pub loop-place-init : goal.loop-place-init
unfolding choice_lists
loop-place-init c = rw c.new-lists.ensures.items (starts _ _)

pub returns-in_err-choices : goal.returns-in_err-choices
returns-in_err-choices c =
    let p = err_from_is_err_and c.from_residual.result c.from_residual.ensures.1 in
    let within : c.loop-place.place < length (map view c.args.items.now) = omega (arith, length-map c.args.items.now view) in
    rw (p.1, p.2) (ends _ _ _ _ (boolean false) _ _ c.loop-place.invariant within (rw c.loop-place.invariant.count c.in_err-choices.ensures))

pub loop-place-preserved : goal.loop-place-preserved
loop-place-preserved c =
    let within : c.loop-place.place < length (map view c.args.items.now) = omega (arith, length-map c.args.items.now view) in
    let pushed : map (λ v. v.items) c.push.new.self.items ≡ map (λ v. v.items) c.loop-place.lists.items ++ c.in_ok-choices.choices.items ∷ [] = rw c.in_ok-push.ensures.items (map_push _ c.loop-place.lists.items c.in_ok-choices.choices) in
    goes_on _ _ _ _ _ (boolean false) _ _ c.loop-place.invariant within (rw c.loop-place.invariant.count c.in_ok-choices.ensures) pushed

pub returns : goal.returns
returns c = is_done _ _ _ _ _ c.loop-place.invariant (omega (arith, length-map c.args.items.now view))
