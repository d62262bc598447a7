use Rattle.std.proofs.Common.{sym, subst}
use Rattle.acas_spec.specs.Model.{GridData}
use Rattle.acas_grid.specs.States.{vertex_at}
use Rattle.acas_process.specs.Step.{moved}
use Rattle.acas_step.specs.Corners.{AreCorners, IsInterpolation, IsWeighting}
use Rattle.acas_step.specs.Ends.{FitsGrid, IsRound}
use Rattle.acas_step_stencils.proofs.stencils.Stencils.corners.Goals as goal

pub corner_set-requires-clause-fits : goal.corner_set-requires-clause-fits
corner_set-requires-clause-fits c = subst (λ (g : GridData). FitsGrid g c.cell-cell.result) (sym c.grid.ensures.value) c.cell-cell.ensures.fits

pub returns-clause-corners : goal.returns-clause-corners
returns-clause-corners c =
    let s = moved c.args.model.now (vertex_at c.args.model.now.grid c.args.vertex) c.args.advisory c.args.sigma in
    let round = subst (λ (g : GridData). IsRound g s c.cell-cell.result) (sym c.grid.ensures.value) c.cell-cell.ensures.round in
    subst (λ (g : GridData). AreCorners g s c.corner_set.result.corners c.corner_set.result.total) c.grid.ensures.value
    (c.corner_set.ensures.corners s round)

pub returns-clause-sums : goal.returns-clause-sums
returns-clause-sums c =
    let s = moved c.args.model.now (vertex_at c.args.model.now.grid c.args.vertex) c.args.advisory c.args.sigma in
    let round = subst (λ (g : GridData). IsRound g s c.cell-cell.result) (sym c.grid.ensures.value) c.cell-cell.ensures.round in
    subst (λ (g : GridData). IsInterpolation g s c.corner_set.result.corners c.corner_set.result.total) c.grid.ensures.value
    (c.corner_set.ensures.sums s round)

pub returns-clause-weights : goal.returns-clause-weights
returns-clause-weights c =
    let s = moved c.args.model.now (vertex_at c.args.model.now.grid c.args.vertex) c.args.advisory c.args.sigma in
    let round = subst (λ (g : GridData). IsRound g s c.cell-cell.result) (sym c.grid.ensures.value) c.cell-cell.ensures.round in
    subst (λ (g : GridData). IsWeighting g c.corner_set.result.corners c.corner_set.result.total) c.grid.ensures.value
    (c.corner_set.ensures.weights s round)
