use Rattle.std.proofs.Common.{◌≡◌, ℕ, ◌<◌, pos, length, get_or}
use Rattle.acas_means.specs.Reach.{change_from}
use Rattle.acas_step.proofs.sharing.changes_from.Given as goal

abbrev pub invariant-loop-advisory : goal.invariant-loop-advisory
invariant-loop-advisory l = record {
  long : length l.changes ≡ 16;
  changes : (a : ℕ) → a < l.advisory → get_or l.changes a (pos 0) ≡ change_from l.model l.v a;
}
