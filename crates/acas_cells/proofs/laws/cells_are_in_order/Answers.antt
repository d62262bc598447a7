use Rattle.acas_cells.proofs.Order.{in_cells, of_cells, sorted_cells}
use Rattle.acas_cells.proofs.laws.cells_are_in_order.Goals as goal

pub returns-clause-order : goal.returns-clause-order
returns-clause-order c = sorted_cells

pub returns-clause-exact : goal.returns-clause-exact
returns-clause-exact c = λ m cell. (of_cells m cell, in_cells m cell)
