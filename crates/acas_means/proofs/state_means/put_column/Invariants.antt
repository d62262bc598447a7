use Rattle.std.proofs.Common.{◌≡◌, ◌≢◌, ℕ, ◌%◌, ◌<◌, length}
use Rattle.acas_spec.specs.Model.{states, vertices}
use Rattle.acas_grid.specs.Grid.{state_number}
use Rattle.acas_means.specs.Columns.{columns, pairs_at, vertex_in}
use Rattle.acas_means.specs.Layer.{pair_at}
use Rattle.acas_means.proofs.state_means.put_column.Given as goal

abbrev pub invariant-loop-i : goal.invariant-loop-i
invariant-loop-i l = record {
  count : length l.means ≡ states l.model.grid;
  written : (i a : ℕ) → i < l.i → a < l.model.grid.advisories
      → pair_at l.means (state_number l.model.grid a (vertex_in l.model.grid l.column i)) ≡ pair_at (pairs_at l.column_means i) a;
  others : (s : ℕ) → s % vertices l.model.grid % columns l.model.grid ≢ l.column → pair_at l.means s ≡ pair_at l.initial.means s;
}
