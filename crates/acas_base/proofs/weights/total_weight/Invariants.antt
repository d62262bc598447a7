use Rattle.std.proofs.Common.{◌≡◌, ◌*◌, ◌≤◌, take, sum_by, unsigned_abs}
use Rattle.acas_units.specs.declared.limits.TheConstants.{GREATEST_WEIGHT}
use Rattle.acas_spec.specs.Model.{weight_of}
use Rattle.acas_base.proofs.weights.total_weight.Given as goal

abbrev pub invariant-loop-sigma : goal.invariant-loop-sigma
invariant-loop-sigma l = record {
  sum : l.total ≡ sum_by weight_of (take l.sigma-index l.sigmas);
  high : l.total ≤ unsigned_abs GREATEST_WEIGHT * l.sigma-index;
}
