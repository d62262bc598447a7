use Rattle.acas_cells.proofs.Exact.{clear_from_none, clear_has_none}
use Rattle.acas_cells.proofs.laws.clear_cells_have_no_advisory.Goals as goal

pub returns : goal.returns
returns c = λ m a cell is. (clear_has_none m a cell, clear_from_none m a cell is)
