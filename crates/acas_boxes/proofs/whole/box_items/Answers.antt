use Rattle.std.proofs.Common.{◌≡◌, ◌++◌, ◌∷◌, [], false, ◌<◌, length, map, arith}
use Rattle.std.proofs.lemmas.Grind.{common_steps}
use Rattle.std.proofs.lemmas.List.{length-map, map_push}
use Rattle.std.proofs.lemmas.Result.{err_from_is_err_and}
use Rattle.toml.specs.Data.{boolean}
use Rattle.toml.specs.View.{view}
use Rattle.acas_spec.proofs.Each.{starts, goes_on, ends, is_done, all_push}
use Rattle.acas_rulings.specs.Boxes.{IsBoxOf, audited}
use Rattle.acas_boxes.specs.Whole.{box_items}
use Rattle.acas_boxes.proofs.whole.box_items.Goals as goal

pub loop-place-init : goal.loop-place-init
unfolding box_items
loop-place-init c = record { goes = rw c.new-boxes.ensures.items (starts _ _); fits = rw c.new-boxes.ensures.items tt }

pub returns-in_err-one-clause-value : goal.returns-in_err-one-clause-value
returns-in_err-one-clause-value c =
    let p = err_from_is_err_and c.from_residual.result c.from_residual.ensures.1 in
    let within : c.loop-place.place < length (map view c.args.items.now) = omega (arith, length-map c.args.items.now view) in
    rw (p.1, p.2) (ends _ _ _ _ (boolean false) _ _ c.loop-place.invariant.goes within (rw c.loop-place.invariant.goes.count c.in_err-one.ensures.value))

pub loop-place-preserved : goal.loop-place-preserved
loop-place-preserved c =
    let within : c.loop-place.place < length (map view c.args.items.now) = omega (arith, length-map c.args.items.now view) in
    let pushed : map audited c.push.new.self.items ≡ map audited c.loop-place.boxes.items ++ audited c.in_ok-one.one ∷ [] = rw c.in_ok-push.ensures.items (map_push audited c.loop-place.boxes.items c.in_ok-one.one) in
    record {
      goes = goes_on _ _ _ _ _ (boolean false) _ _ c.loop-place.invariant.goes within (rw c.loop-place.invariant.goes.count c.in_ok-one.ensures.value) pushed;
      fits = rw pushed (all_push (IsBoxOf c.args.model.now) _ _ c.loop-place.invariant.fits c.in_ok-one.ensures.fits);
    }

pub returns-clause-value : goal.returns-clause-value
returns-clause-value c = is_done _ _ _ _ _ c.loop-place.invariant.goes (omega (arith, length-map c.args.items.now view))

pub returns-clause-count : goal.returns-clause-count
returns-clause-count c = grind (arith, common_steps)
