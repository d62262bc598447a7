use Rattle.std.proofs.Common.{◌≡◌, ℕ, ◌<◌, length, get_or}
use Rattle.acas_means.specs.Reach.{AreAlike}
use Rattle.acas_means.proofs.likes.likes_of.Given as goal

abbrev pub invariant-loop-advisory : goal.invariant-loop-advisory
invariant-loop-advisory l = record {
  long : length l.likes ≡ 16;
  likes : (a : ℕ) → a < l.advisory → AreAlike l.model.grid l.below a (get_or l.likes a 0);
}
