use Rattle.std.proofs.Common.{◌≡◌, ℕ, ◌+◌, ◌*◌, ◌<◌, ◌≤◌, mul-le-mul_right, ap, subst, ◌∙◌, arith}
use Rattle.std.proofs.lemmas.Grind.{common_steps}
use Rattle.acas_spec.specs.Model.{GridData, vertices}
use Rattle.acas_grid.specs.States.{vertex_at}
use Rattle.acas_process.specs.Step.{moved}
use Rattle.acas_means.specs.Columns.{vertex_in}
use Rattle.acas_step_narrow.specs.ColumnBlends.{AreBlends}
use Rattle.acas_step_stencils.specs.Cells.{HoldsRates}
use Rattle.acas_step.specs.Ends.{weight_of_cell}
use Rattle.acas_step_stencils.proofs.ColumnCells.{unit_cell-HoldsRates}
use Rattle.acas_step_stencils.proofs.ColumnVertices.{vertex_in-lowest}
use Rattle.acas_step_narrow.proofs.RaisedSums.{has_room}
use Rattle.acas_step_columns.proofs.column_sums.fill_sums.Goals as goal

pub loop-sigma-init : goal.loop-sigma-init
loop-sigma-init c = grind (arith, common_steps)

pub unit_cell-corner-requires-clause-stencil : goal.unit_cell-corner-requires-clause-stencil
unit_cell-corner-requires-clause-stencil c = grind (arith, common_steps)

pub fill_blends-requires-clause-fits : goal.fill_blends-requires-clause-fits
fill_blends-requires-clause-fits c = grind (arith, common_steps)

pub fill_blends-requires-clause-first : goal.fill_blends-requires-clause-first
fill_blends-requires-clause-first c = grind (arith, common_steps)

pub fill_blends-requires-clause-upper : goal.fill_blends-requires-clause-upper
fill_blends-requires-clause-upper c = grind (arith, common_steps)

pub fill_blends-requires-clause-lower : goal.fill_blends-requires-clause-lower
fill_blends-requires-clause-lower c = grind (arith, common_steps)

pub fill_blends-requires-clause-room : goal.fill_blends-requires-clause-room
fill_blends-requires-clause-room c =
    let reach = c.args.over.now.reach in
    let t = c.unit_cell-corner.result.cell in
    let known = c.unit_cell-corner.ensures.known in
    let some : 0 < weight_of_cell t = omega (arith, known.divisor.some, known.by) in
    let least : weight_of_cell t ≤ reach.widest = omega (arith, c.if-corner-over.false, known.by) in
    has_room t reach.size some (omega (arith, mul-le-mul_right (2 * reach.size + 1) least, c.requires.column.reach.room))

pub add_points-requires-clause-rates : goal.add_points-requires-clause-rates
add_points-requires-clause-rates c =
    let m = c.args.over.now.model.now in
    subst (λ (v : ℕ). HoldsRates m.grid c.args.over.now.stencils.now.units (moved m (vertex_at m.grid v) c.args.advisory c.loop-sigma.sigma) c.unit_cell-corner.result.cell) (vertex_in-lowest m.grid c.args.column)
    (unit_cell-HoldsRates m.grid c.args.over.now.stencils.now.units (moved m (vertex_at m.grid (vertex_in m.grid c.args.column 0)) c.args.advisory c.loop-sigma.sigma) c.unit_cell-corner.result c.unit_cell-corner.ensures)

pub add_points-requires-clause-within : goal.add_points-requires-clause-within
add_points-requires-clause-within c = grind (arith, common_steps)

pub add_points-requires-clause-sums : goal.add_points-requires-clause-sums
add_points-requires-clause-sums c = record { each = λ i here. (c.loop-sigma.invariant.each i here).within }

pub loop-sigma-preserved : goal.loop-sigma-preserved
loop-sigma-preserved c =
    let m = c.args.over.now.model.now in
    let t = c.unit_cell-corner.result.cell in
    let first : c.first_state-first.result ≡ c.args.advisory * vertices m.grid = c.first_state-first.ensures.value ∙ ap (λ (d : GridData). c.args.advisory * vertices d) c.grid-grid.ensures.value in
    let blends = subst (λ (d : GridData). AreBlends d t c.first_state-first.result c.args.over.now.reach.size c.args.over.now.below.now c.fill_blends.new.uppers c.fill_blends.new.lowers) c.grid-grid.ensures.value c.fill_blends.ensures.blends in
    c.add_points.ensures.sums c.args.over.now.below.now c.requires.column.below c.requires.column.reach.upper c.requires.column.reach.lower
    (subst (λ (n : ℕ). AreBlends m.grid t n c.args.over.now.reach.size c.args.over.now.below.now c.fill_blends.new.uppers c.fill_blends.new.lowers) first blends) c.loop-sigma.invariant c.if-not-add_points.false

pub returns : goal.returns
returns c = grind (arith, common_steps)

pub add_points-requires-clause-stencil : goal.add_points-requires-clause-stencil
add_points-requires-clause-stencil c = grind (arith, common_steps)
