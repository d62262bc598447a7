use Rattle.std.proofs.Common.{◌≡◌, ℕ, ◌+◌, ◌*◌, ◌<◌, ◌≤◌, List, length}
use Rattle.acas_spec.specs.Model.{states, vertices}
use Rattle.acas_grid.specs.States.{vertex_at}
use Rattle.acas_units.specs.declared.pair.Pair.{Pair}
use Rattle.acas_means.specs.Columns.{vertex_in}
use Rattle.acas_step_narrow.specs.ColumnBlends.{AreBlends, AreColumnSums}
use Rattle.acas_means.specs.Layer.{AreWithin}
use Rattle.acas_step_narrow.specs.Narrow.{AreRaisedSums, weights_below}
use Rattle.acas_step_narrow.specs.Raised.{AreRaisedWithin, raised_in}
use Rattle.acas_means.specs.declared.layer.Side.TheVariants.{Upper, Lower}
use Rattle.acas_step_columns.proofs.column_sums.add_points.Given as goal

abbrev pub invariant-loop-i : goal.invariant-loop-i
invariant-loop-i l = record {
  long_upper : length l.uppers ≡ 129;
  long_lower : length l.lowers ≡ 129;
  others : (i : ℕ) → l.i ≤ i → raised_in l.uppers l.lowers i ≡ raised_in l.initial.uppers l.initial.lowers i;
  within : (i : ℕ) → i < l.i → AreRaisedWithin (2 * l.over.reach.size * weights_below l.over.model.now (l.key.sigma + 1)) (raised_in l.uppers l.lowers i);
  sums : (below : List Pair) → length below ≡ states l.over.model.now.grid → AreWithin l.over.reach.size Upper below → AreWithin l.over.reach.size Lower below
      → AreBlends l.over.model.now.grid l.rates (l.key.advisory * vertices l.over.model.now.grid) l.over.reach.size below l.blend_uppers l.blend_lowers
      → AreColumnSums l.over.model.now below l.over.reach.size l.key.column l.key.advisory l.key.sigma l.initial.uppers l.initial.lowers
      → (i : ℕ) → i < l.i → AreRaisedSums l.over.model.now below l.over.reach.size (vertex_at l.over.model.now.grid (vertex_in l.over.model.now.grid l.key.column i)) l.key.advisory (l.key.sigma + 1) (raised_in l.uppers l.lowers i);
}
