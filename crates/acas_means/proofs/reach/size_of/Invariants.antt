use Rattle.std.proofs.Common.{ℕ, ◌<◌, ◌≤◌, unsigned_abs}
use Rattle.acas_means.specs.Layer.{pair_at}
use Rattle.acas_means.proofs.reach.size_of.Given as goal

abbrev pub invariant-loop-pair : goal.invariant-loop-pair
invariant-loop-pair l = record {
  upper : (place : ℕ) → place < l.pair-index → unsigned_abs (pair_at l.below place).upper ≤ l.digits;
  lower : (place : ℕ) → place < l.pair-index → unsigned_abs (pair_at l.below place).lower ≤ l.digits;
}
