use Rattle.acas_cells.proofs.Order.{sorted_advisory_cells}
use Rattle.acas_cells.proofs.Exact.{in_advisory_cells, of_advisory_cells}
use Rattle.acas_cells.proofs.laws.advisory_cells_are_in_order.Goals as goal

pub returns-clause-order : goal.returns-clause-order
returns-clause-order c = sorted_advisory_cells

pub returns-clause-exact : goal.returns-clause-exact
returns-clause-exact c = λ m a name are of. (of_advisory_cells m a name, in_advisory_cells m a name are of)
