use Rattle.std.proofs.Common.{◌≡◌, ◌≢◌, ℕ, ◌%◌, ◌<◌, length}
use Rattle.acas_spec.specs.Model.{states, vertices}
use Rattle.acas_grid.specs.Grid.{state_number}
use Rattle.acas_means.specs.Layer.{pair_at}
use Rattle.acas_means.proofs.state_means.put_means.Given as goal

abbrev pub invariant-loop-advisory : goal.invariant-loop-advisory
invariant-loop-advisory l = record {
  count : length l.means ≡ states l.model.grid;
  written : (a : ℕ) → a < l.advisory → pair_at l.means (state_number l.model.grid a l.vertex) ≡ pair_at l.vertex_means a;
  others : (s : ℕ) → s % vertices l.model.grid ≢ l.vertex → pair_at l.means s ≡ pair_at l.initial.means s;
}
