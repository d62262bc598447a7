use Rattle.std.proofs.Common.{◌≡◌, ℕ, ◌<◌, length}
use Rattle.acas_grid.specs.States.{vertex_at}
use Rattle.acas_means.specs.Layer.{AreWithin, pair_at}
use Rattle.acas_means.specs.Means.{AreMeansAt}
use Rattle.acas_means.specs.declared.layer.Side.{Side}
use Rattle.acas_plain.proofs.means.means_at.Given as goal

abbrev pub invariant-loop-advisory : goal.invariant-loop-advisory
invariant-loop-advisory l = record {
  long : length l.means ≡ 16;
  means : (a : ℕ) → a < l.advisory → AreMeansAt l.model l.below (vertex_at l.model.grid l.vertex) a (pair_at l.means a);
  bounded : (most : ℕ) (side : Side) → AreWithin most side l.below → AreWithin most side l.means;
}
