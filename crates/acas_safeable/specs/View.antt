-- A clear cell as the cell that it is.
use Rattle.acas_cells.specs.Cells.{Cell, cell_at}
use Rattle.acas_safeable.specs.declared.outlook.ClearCell.{ClearCell}

abbrev pub cell_of : ClearCell → Cell
cell_of c = cell_at c.n c.present c.i c.j c.k
