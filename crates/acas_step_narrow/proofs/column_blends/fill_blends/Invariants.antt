use Rattle.std.proofs.Common.{◌≡◌, ℕ, ◌+◌, ◌*◌, ◌<◌, ◌≤◌, length, get_or}
use Rattle.acas_means.specs.Columns.{vertex_in}
use Rattle.acas_step.specs.Ends.{column_of}
use Rattle.acas_step_narrow.specs.Raised.{along_v0, raised_at, width}
use Rattle.acas_means.specs.declared.layer.Side.TheVariants.{Upper, Lower}
use Rattle.acas_step_narrow.proofs.column_blends.fill_blends.Given as goal

abbrev pub invariant-loop-i : goal.invariant-loop-i
invariant-loop-i l = record {
  at : l.at ≡ l.first + vertex_in l.grid (column_of l.grid l.cell) l.i;
  long_upper : length l.uppers ≡ 129;
  long_lower : length l.lowers ≡ 129;
  upper : (i : ℕ) → i < l.i → get_or l.uppers i 0 ≡ along_v0 l.cell (length l.grid.v1) (raised_at l.by Upper l.below) (l.first + vertex_in l.grid (column_of l.grid l.cell) i);
  lower : (i : ℕ) → i < l.i → get_or l.lowers i 0 ≡ along_v0 l.cell (length l.grid.v1) (raised_at l.by Lower l.below) (l.first + vertex_in l.grid (column_of l.grid l.cell) i);
  within_upper : (i : ℕ) → i < l.i → get_or l.uppers i 0 ≤ 2 * l.by * width l.cell.v1 * width l.cell.v0;
  within_lower : (i : ℕ) → i < l.i → get_or l.lowers i 0 ≤ 2 * l.by * width l.cell.v1 * width l.cell.v0;
}
