use Rattle.std.proofs.Common.{ℕ, ◌<◌, refl, sym, subst, arith}
use Rattle.acas_spec.specs.Model.{GridData, vertices}
use Rattle.acas_grid.specs.States.{vertex_at}
use Rattle.acas_means.proofs.ColumnLaws.{vertex_in-below}
use Rattle.acas_step_stencils.specs.Cells.{IsVertexCell}
use Rattle.acas_step_stencils.specs.declared.vertex_cells.VertexCell.{VertexCell}
use Rattle.acas_step_stencils.proofs.ColumnCells.{vertex_cell-read}
use Rattle.acas_step_stencils.proofs.EvenCells.{even_vertex_cell}
use Rattle.acas_step_stencils.proofs.stencils.Stencils.size_above.Goals as goal
use Rattle.acas_step_stencils.proofs.stencils.Stencils.size_above.Goals.{After-grid}

-- the vertex has a number
below : (c : After-grid) → c.args.base < vertices c.args.model.now.grid
below c =
    let is = c.requires.base in
    omega (arith, is.2, vertex_in-below c.args.model.now.grid c.args.rise.led.column is.0 c.requires.column (omega (arith, is.1)))

pub returns-then-self-gt0 : goal.returns-then-self-gt0
returns-then-self-gt0 c =
    let g : GridData = c.args.model.now.grid in
    let all = c.args.self.now in
    let column = c.args.rise.led.column in
    let are = c.requires.stencils in
    let is = c.requires.base in
    let low = c.requires.divisor.above in
    let above : VertexCell = record { i = is.0; j = low.0.j; k = low.0.k; h = all.even; v0 = low.0.v0; v1 = low.0.v1; divisor = low.0.divisor } in
    let known =
    even_vertex_cell g all.units all.heights.items all.even column is.0 low.0 c.grid.ensures.valid.grid are.units are.heights (omega (arith, c.if-self-gt0.true)) are.even c.requires.column is.1 low.1 in
    record { above = (above, subst (λ (n : ℕ). IsVertexCell g all.units (vertex_at g n) above) (sym is.2) known, refl, low.2) }

pub index-corner-requires : goal.index-corner-requires
index-corner-requires c = omega (arith, below c.before, c.requires.stencils.cells.count)

pub returns : goal.returns
returns c =
    let g : GridData = c.args.model.now.grid in
    let all = c.args.self.now in
    let above = c.index-corner.result.now in
    record { above = (above, vertex_cell-read g all.units all.cells.items c.args.base above c.requires.stencils.cells (below c.before.before.before.before) c.index-corner.ensures, refl, refl) }
