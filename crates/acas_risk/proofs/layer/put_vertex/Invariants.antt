use Rattle.std.proofs.Common.{◌≡◌, ◌≢◌, ℕ, ◌+◌, ◌%◌, ◌<◌, length}
use Rattle.acas_spec.specs.Model.{states, vertices}
use Rattle.acas_grid.specs.States.{state_present}
use Rattle.acas_means.specs.Layer.{pair_at}
use Rattle.acas_risk.specs.Layers.{IsPlanned}
use Rattle.acas_risk.specs.Plans.{policy_of}
use Rattle.acas_risk.proofs.layer.put_vertex.Given as goal

abbrev pub invariant-loop-present : goal.invariant-loop-present
invariant-loop-present l = record {
  count : length l.above ≡ states l.model.grid;
  written : (s : ℕ) → state_present l.model.grid s < l.present → s % vertices l.model.grid ≡ l.vertex
      → IsPlanned l.model.grid l.step.costs.now (policy_of l.model l.step.plan.now) (l.step.n + 1) l.means s (pair_at l.above s);
  others : (s : ℕ) → s % vertices l.model.grid ≢ l.vertex → pair_at l.above s ≡ pair_at l.initial.above s;
}
