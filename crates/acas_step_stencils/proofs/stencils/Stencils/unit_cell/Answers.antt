use Rattle.std.proofs.Common.{sym, subst, arith}
use Rattle.acas_spec.specs.Model.{GridData}
use Rattle.acas_grid.specs.States.{vertex_at}
use Rattle.acas_process.specs.Step.{moved}
use Rattle.acas_means.specs.Columns.{vertex_in}
use Rattle.acas_step_stencils.specs.Stencils.{IsStencil}
use Rattle.acas_step_stencils.specs.Cells.{IsUnitCell, IsVertexCell}
use Rattle.acas_step_stencils.specs.declared.vertex_cells.VertexCell.{VertexCell}
use Rattle.acas_step_stencils.proofs.stencils.Stencils.unit_cell.Goals as goal

pub index-above-requires : goal.index-above-requires
index-above-requires c = omega (arith, c.stencil-stencil.ensures.base, c.requires.stencil.usable.stencils.cells.count)

pub unit_cell_of-requires-clause-above : goal.unit_cell_of-requires-clause-above
unit_cell_of-requires-clause-above c =
    let n = c.stencil-stencil.result.base in
    subst (λ (g : GridData). IsVertexCell g c.args.self.now.units (vertex_at g n) c.index-above.result.now) (sym c.grid.ensures.value)
    (subst (λ (a : VertexCell). IsVertexCell c.args.model.now.grid c.args.self.now.units (vertex_at c.args.model.now.grid n) a) (sym c.index-above.ensures)
    (c.requires.stencil.usable.stencils.cells.each n c.index-above.result.now c.stencil-stencil.ensures.base))

pub unit_cell_of-requires-clause-stencil : goal.unit_cell_of-requires-clause-stencil
unit_cell_of-requires-clause-stencil c =
    let s = moved c.args.model.now (vertex_at c.args.model.now.grid (vertex_in c.args.model.now.grid c.args.key.column c.args.i)) c.args.key.advisory c.args.key.sigma in
    (s, subst (λ (g : GridData). IsStencil g c.args.self.now.units s c.stencil-stencil.result) (sym c.grid.ensures.value) c.stencil-stencil.ensures)

pub returns : goal.returns
returns c =
    let s = moved c.args.model.now (vertex_at c.args.model.now.grid (vertex_in c.args.model.now.grid c.args.key.column c.args.i)) c.args.key.advisory c.args.key.sigma in
    let is = subst (λ (g : GridData). IsStencil g c.args.self.now.units s c.stencil-stencil.result) (sym c.grid.ensures.value) c.stencil-stencil.ensures in
    subst (λ (g : GridData). IsUnitCell g c.args.self.now.units s c.unit_cell_of.result) c.grid.ensures.value (c.unit_cell_of.ensures s is)
