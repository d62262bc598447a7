use Rattle.std.proofs.Common.{◌≡◌, ℕ, ◌<◌}
use Rattle.acas_means.specs.Layer.{pair_at}
use Rattle.acas_means.proofs.likes.are_same.Given as goal

abbrev pub invariant-loop-v : goal.invariant-loop-v
invariant-loop-v l = (k : ℕ) → k < l.v → pair_at l.plane k ≡ pair_at l.other k
