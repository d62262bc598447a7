use Rattle.std.proofs.Common.{◌≡◌, ◌≢◌, ℕ, ◌+◌, ◌<◌, length}
use Rattle.acas_spec.specs.Model.{states}
use Rattle.acas_means.specs.Columns.{pairs_at}
use Rattle.acas_means.specs.Layer.{pair_at}
use Rattle.acas_risk.specs.Layers.{IsPlanned, altitude_at, column_at}
use Rattle.acas_risk.specs.Plans.{policy_of}
use Rattle.acas_risk.proofs.layer.put_column.Given as goal

abbrev pub invariant-loop-i : goal.invariant-loop-i
invariant-loop-i l = record {
  count : length l.above ≡ states l.model.grid;
  written : (s : ℕ) → altitude_at l.model.grid s < l.i → s < states l.model.grid → column_at l.model.grid s ≡ l.column
      → IsPlanned l.model.grid l.step.costs.now (policy_of l.model l.step.plan.now) (l.step.n + 1) (pairs_at l.means (altitude_at l.model.grid s)) s (pair_at l.above s);
  others : (s : ℕ) → column_at l.model.grid s ≢ l.column → pair_at l.above s ≡ pair_at l.initial.above s;
}
