use Rattle.std.proofs.Common.{◌≡◌, ℕ, ◌%◌, ◌<◌, length}
use Rattle.acas_spec.specs.Model.{states, vertices}
use Rattle.acas_grid.specs.States.{state_present, state_vertex}
use Rattle.acas_means.specs.Columns.{columns}
use Rattle.acas_means.specs.Layer.{pair_at}
use Rattle.acas_means.specs.Means.{AreMeansAt}
use Rattle.acas_means.proofs.state_means.fill_means_with.Given as goal

abbrev pub invariant-loop-column : goal.invariant-loop-column
invariant-loop-column g l = record {
  count : length l.means ≡ states l.model.grid;
  means : (s : ℕ) → s < states l.model.grid → s % vertices l.model.grid % columns l.model.grid < l.column
      → AreMeansAt l.model l.below (state_vertex l.model.grid s) (state_present l.model.grid s) (pair_at l.means s);
}
