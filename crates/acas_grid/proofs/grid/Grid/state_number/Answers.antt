use Rattle.acas_spec.specs.Model.{vertices}
use Rattle.acas_grid.proofs.Vertices.{row_below}
use Rattle.acas_grid.proofs.grid.Grid.state_number.Goals as goal

pub returns-clause-below : goal.returns-clause-below
returns-clause-below c =
    rw (c.from.ensures, c.vertices.ensures.value) (row_below c.args.self.now.advisories (vertices c.args.self.now) c.args.present c.args.vertex c.requires.present c.requires.vertex)
