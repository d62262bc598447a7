-- The columns of a cell's corners.
use Rattle.std.proofs.Common.{suc, ◌+◌, ◌<◌, length, arith}
use Rattle.acas_spec.specs.Model.{GridData}
use Rattle.acas_grid.proofs.Vertices.{row_below}
use Rattle.acas_means.specs.Columns.{columns}
use Rattle.acas_step.specs.Ends.{column_of}
use Rattle.acas_step.specs.Ends.{FitsGrid}
use Rattle.acas_step.specs.declared.cell.Cell.{Cell}

-- the upper corner of a cell is in a column as well
pub upper_column-below : (g : GridData) (t : Cell) → FitsGrid g t → column_of g t + length g.v1 + 1 < columns g
upper_column-below g t fits = omega (arith, row_below (length g.v0) (length g.v1) (suc t.v0.cell) (suc t.v1.cell) (omega (arith, fits.v0.place)) (omega (arith, fits.v1.place)))
