use Rattle.std.proofs.Common.{◌≡◌, ℕ, ◌<◌, length}
use Rattle.acas_process.specs.Values.{millionths}
use Rattle.acas_process.specs.Cost.{cost_of}
use Rattle.acas_risk.specs.Counts.{second_cost}
use Rattle.acas_risk.proofs.counted.costs_of.Given as goal

abbrev pub invariant-loop-present : goal.invariant-loop-present
invariant-loop-present l = record {
  long : length l.costs ≡ 16;
  each : (p : ℕ) → p < l.present → (a : ℕ) → a < l.model.grid.advisories → second_cost l.costs p a ≡ millionths (cost_of l.model p a);
}
