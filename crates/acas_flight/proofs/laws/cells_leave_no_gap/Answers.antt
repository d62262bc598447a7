use Rattle.acas_flight.proofs.Gapless.{in_some_cell}
use Rattle.acas_flight.proofs.laws.cells_leave_no_gap.Goals as goal

pub returns : goal.returns
returns c = in_some_cell
