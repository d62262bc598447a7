use Rattle.std.proofs.Common.{subst}
use Rattle.acas_spec.specs.Model.{GridData}
use Rattle.acas_step.specs.Corners.{AreCorners, IsInterpolation, IsWeighting}
use Rattle.acas_step.proofs.cell.corners.Goals as goal

pub returns-clause-corners : goal.returns-clause-corners
returns-clause-corners c =
    subst (λ (g : GridData). AreCorners g c.args.point c.corner_set.result.corners c.corner_set.result.total) c.grid-grid.ensures.value
    (c.corner_set.ensures.corners c.args.point c.cell_of.ensures.round)

pub returns-clause-sums : goal.returns-clause-sums
returns-clause-sums c =
    subst (λ (g : GridData). IsInterpolation g c.args.point c.corner_set.result.corners c.corner_set.result.total) c.grid-grid.ensures.value
    (c.corner_set.ensures.sums c.args.point c.cell_of.ensures.round)

pub returns-clause-weights : goal.returns-clause-weights
returns-clause-weights c =
    subst (λ (g : GridData). IsWeighting g c.corner_set.result.corners c.corner_set.result.total) c.grid-grid.ensures.value
    (c.corner_set.ensures.weights c.args.point c.cell_of.ensures.round)
