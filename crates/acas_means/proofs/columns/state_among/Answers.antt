use Rattle.acas_spec.specs.Model.{vertices}
use Rattle.acas_grid.proofs.Vertices.{row_below}
use Rattle.acas_means.proofs.columns.state_among.Goals as goal

pub returns-clause-below : goal.returns-clause-below
returns-clause-below c =
    let g = c.args.grid.now in rw (c.from.ensures, c.requires.width) (row_below g.advisories (vertices g) c.args.present c.args.vertex c.requires.present c.requires.vertex)
