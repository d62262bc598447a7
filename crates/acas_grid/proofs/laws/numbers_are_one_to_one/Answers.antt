use Rattle.acas_grid.proofs.Vertices.{states-one_to_one, vertices-one_to_one}
use Rattle.acas_grid.proofs.laws.numbers_are_one_to_one.Goals as goal

pub returns-clause-vertices : goal.returns-clause-vertices
returns-clause-vertices c = vertices-one_to_one

pub returns-clause-states : goal.returns-clause-states
returns-clause-states c = states-one_to_one
