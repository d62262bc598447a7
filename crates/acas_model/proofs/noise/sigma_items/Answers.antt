use Rattle.std.proofs.Common.{false, ◌<◌, length, map, arith}
use Rattle.std.proofs.lemmas.List.{length-map}
use Rattle.std.proofs.lemmas.Result.{err_from_is_err_and}
use Rattle.toml.specs.Data.{boolean}
use Rattle.toml.specs.View.{view}
use Rattle.acas_model.specs.Noise.{sigma_items}
use Rattle.acas_spec.specs.Limits.{IsSigma}
use Rattle.acas_spec.proofs.Each.{starts, goes_on, ends, is_done, all_push}
use Rattle.acas_model.proofs.noise.sigma_items.Goals as goal

pub loop-place-init : goal.loop-place-init
unfolding sigma_items
loop-place-init c = record { goes = rw c.new-sigmas.ensures.items (starts _ _); range = rw c.new-sigmas.ensures.items tt }

pub returns-in_err-sigma-clause-value : goal.returns-in_err-sigma-clause-value
returns-in_err-sigma-clause-value c =
    let p = err_from_is_err_and c.from_residual.result c.from_residual.ensures.1 in
    let within : c.loop-place.place < length (map view c.args.items.now) = omega (arith, length-map c.args.items.now view) in
    rw (p.1, p.2) (ends _ _ _ _ (boolean false) _ _ c.loop-place.invariant.goes within (rw c.loop-place.invariant.goes.count c.in_err-sigma.ensures.value))

pub loop-place-preserved : goal.loop-place-preserved
loop-place-preserved c =
    let within : c.loop-place.place < length (map view c.args.items.now) = omega (arith, length-map c.args.items.now view) in
    record {
      goes = goes_on _ _ _ _ _ (boolean false) _ _ c.loop-place.invariant.goes within (rw c.loop-place.invariant.goes.count c.in_ok-sigma.ensures.value) c.in_ok-push.ensures.items;
      range = rw c.in_ok-push.ensures.items (all_push IsSigma _ _ c.loop-place.invariant.range c.in_ok-sigma.ensures.range);
    }

pub returns-clause-value : goal.returns-clause-value
returns-clause-value c = is_done _ _ _ _ _ c.loop-place.invariant.goes (omega (arith, length-map c.args.items.now view))
