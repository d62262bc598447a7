use Rattle.std.proofs.Common.{◌≡◌, ℕ, ◌<◌, ◌≤◌, pos, drop, get_or, length}
use Rattle.acas_spec.specs.Model.{choices_at}
use Rattle.acas_process.specs.Values.{millionths}
use Rattle.acas_process.specs.Cost.{cost_among}
use Rattle.acas_risk.proofs.counted.costs_under.Given as goal

abbrev pub invariant-loop-place : goal.invariant-loop-place
invariant-loop-place l = record {
  long : length l.costs ≡ 16;
  inside : l.place ≤ length (choices_at l.model l.present);
  later : (a : ℕ) → a < l.model.grid.advisories → get_or l.costs a (pos 0) ≡ millionths (cost_among (drop l.place (choices_at l.model l.present)) a);
}

abbrev pub decreases-loop-place : goal.decreases-loop-place
decreases-loop-place l = l.place
