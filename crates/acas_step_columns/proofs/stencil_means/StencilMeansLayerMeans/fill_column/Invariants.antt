use Rattle.std.proofs.Common.{ℕ, ◌<◌, length}
use Rattle.acas_grid.specs.States.{vertex_at}
use Rattle.acas_means.specs.Columns.{AreAllWithin, pairs_at, vertex_in}
use Rattle.acas_means.specs.Layer.{AreWithin, pair_at}
use Rattle.acas_means.specs.Means.{AreMeansAt}
use Rattle.acas_means.specs.declared.layer.Side.{Side}
use Rattle.acas_step_columns.proofs.stencil_means.StencilMeansLayerMeans.fill_column.Given as goal

abbrev pub invariant-loop-advisory : goal.invariant-loop-advisory
invariant-loop-advisory l = record {
  means : (i b : ℕ) → i < length l.model.grid.h → b < l.advisory
      → AreMeansAt l.model l.below (vertex_at l.model.grid (vertex_in l.model.grid l.column i)) b (pair_at (pairs_at l.means i) b);
  bounded : (most : ℕ) (side : Side) → AreWithin most side l.below → AreAllWithin most side l.initial.means → AreAllWithin most side l.means;
}
