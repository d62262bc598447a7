use Rattle.acas_safeable.proofs.Follow.{cell_follows}
use Rattle.acas_safeable.proofs.laws.cells_follow_cells.Goals as goal

pub returns : goal.returns
returns c = cell_follows
