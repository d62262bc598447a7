use Rattle.std.proofs.Common.{◌≡◌, ℕ, ◌<◌, length}
use Rattle.acas_grid.specs.States.{vertex_at}
use Rattle.acas_means.specs.Columns.{AreAllWithin, pairs_at, vertex_in}
use Rattle.acas_means.specs.Layer.{AreWithin, pair_at}
use Rattle.acas_means.specs.Means.{AreMeansAt}
use Rattle.acas_means.specs.declared.layer.Side.{Side}
use Rattle.acas_step_columns.proofs.columns.fill_advisory.Given as goal

abbrev pub invariant-loop-i : goal.invariant-loop-i
invariant-loop-i l = record {
  long : length l.means ≡ 129;
  earlier : (i b : ℕ) → i < length l.over.model.now.grid.h → b < l.advisory
      → AreMeansAt l.over.model.now l.over.below.now (vertex_at l.over.model.now.grid (vertex_in l.over.model.now.grid l.column i)) b (pair_at (pairs_at l.means i) b);
  formed : (i : ℕ) → i < l.i
      → AreMeansAt l.over.model.now l.over.below.now (vertex_at l.over.model.now.grid (vertex_in l.over.model.now.grid l.column i)) l.advisory (pair_at (pairs_at l.means i) l.advisory);
  bounded : (most : ℕ) (side : Side) → AreWithin most side l.over.below.now → AreAllWithin most side l.initial.means → AreAllWithin most side l.means;
}
