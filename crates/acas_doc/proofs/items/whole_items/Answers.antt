use Rattle.std.proofs.Common.{false, ◌<◌, ℤ, length, map, Vec, Global, w64, rules, arith}
use Rattle.std.proofs.lemmas.Int.{to_z-of_z}
use Rattle.std.proofs.lemmas.List.{length-map}
use Rattle.std.proofs.lemmas.Result.{err_from_is_err_and}
use Rattle.toml.specs.Data.{boolean}
use Rattle.toml.specs.View.{view}
use Rattle.acas_doc.specs.Keys.{whole_items}
use Rattle.acas_spec.proofs.Each.{starts, goes_on, is_done}
use Rattle.acas_doc.proofs.WholeItems.{item_fails}
use Rattle.acas_doc.proofs.items.whole_items.Goals as goal
use mir.Val.{SFits}

pub loop-place-init : goal.loop-place-init
unfolding whole_items
loop-place-init c = rw c.new-wholes.ensures.items (starts _ _)

pub loop-place-preserved : goal.loop-place-preserved
loop-place-preserved c =
    let within : c.loop-place.place < length (map view c.args.items.now) = omega (arith, length-map c.args.items.now view) in
    let fits : SFits w64 c.in_ok-whole.whole = search rules in
    let pushed = simp to_z-of_z at c.in_ok-push.ensures.items in
    goes_on _ _ _ _ _ (boolean false) _ _ c.loop-place.invariant within (rw c.loop-place.invariant.count c.in_ok-whole.ensures.value) pushed

pub returns-in_err-whole-clause-value : goal.returns-in_err-whole-clause-value
returns-in_err-whole-clause-value c =
    let p = err_from_is_err_and c.from_residual.result c.from_residual.ensures.1 in
    let least : SFits w64 c.args.least = search rules in
    let greatest : SFits w64 c.args.greatest = search rules in
    let within : c.loop-place.place < length (map view c.args.items.now) = omega (arith, length-map c.args.items.now view) in
    let fails = item_fails (λ (v : Vec ℤ Global). v.items) _ _ _ _ _ _ _ _ c.loop-place.invariant within c.in_err-whole.ensures.value in
    rw (p.1, p.2) (simp to_z-of_z at fails)

pub returns-clause-value : goal.returns-clause-value
returns-clause-value c =
    let least : SFits w64 c.args.least = search rules in
    let greatest : SFits w64 c.args.greatest = search rules in
    let done = is_done _ _ _ _ _ c.loop-place.invariant (omega (arith, length-map c.args.items.now view)) in
    simp to_z-of_z at done
