use Rattle.acas_grid.proofs.StateNumbers.{state_numbers-inverse, vertex_numbers-inverse}
use Rattle.acas_grid.proofs.laws.numbers_give_back_their_parts.Goals as goal

pub returns-clause-vertices : goal.returns-clause-vertices
returns-clause-vertices c = vertex_numbers-inverse

pub returns-clause-states : goal.returns-clause-states
returns-clause-states c = state_numbers-inverse
