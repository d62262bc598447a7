use Rattle.acas_grid.proofs.StateNumbers.{IsVertex-vertex_at, vertex_number-vertex_at}
use Rattle.acas_grid.specs.States.{vertex_at}
use Rattle.acas_grid.proofs.states.vertex_at.Goals as goal

pub returns-clause-value : goal.returns-clause-value
returns-clause-value c =
    c.vertex_of.ensures.inverse (vertex_at c.args.grid.now c.args.number) (IsVertex-vertex_at c.args.grid.now c.args.number c.requires) (vertex_number-vertex_at c.args.grid.now c.args.number)
