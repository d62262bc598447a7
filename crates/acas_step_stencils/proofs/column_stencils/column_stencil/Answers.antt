use Rattle.std.proofs.Common.{◌≡◌, ℤ, to_z, of_z, w32, w64, refl, ap, subst, ◌∙◌, arith, rules}
use Rattle.std.proofs.lemmas.Int.{ints}
use Rattle.acas_spec.specs.Model.{GridData}
use Rattle.acas_spec.specs.declared.place.Point.{Point}
use Rattle.acas_spec.specs.declared.place.Vertex.{Vertex}
use Rattle.acas_grid.specs.States.{vertex_at}
use Rattle.acas_process.specs.Step.{moved}
use Rattle.acas_step_stencils.specs.Stencils.{IsColumnStencil, climb_from}
use Rattle.acas_step_stencils.specs.declared.units.Units.{Units}
use Rattle.acas_step_stencils.specs.declared.column_stencils.ColumnStencil.{ColumnStencil}
use Rattle.acas_step_stencils.proofs.StencilLaws.{column_round}
use Rattle.acas_step_stencils.proofs.column_stencils.column_stencil.Goals as goal

pub returns : goal.returns
returns c =
    let m = c.args.model.now in
    let a = c.args.advisory in
    let q = c.args.sigma in
    let t = c.cell_near-cell in
    let end : Point = c.moved_from.result in
    let rise : ℤ = c.climb_from.result in
    let ones : Units = record { h = 1; v0 = 1; v1 = 1 } in
    let s : ColumnStencil = record { column = c.column_of_cell.result; v0 = t.result.v0.upper; v1 = t.result.v1.upper; climb = to_z w32 (of_z w32 (to_z w64 (of_z w64 c.climb_from.result))) } in
    let from : c.vertex_at-from.result ≡ vertex_at m.grid c.args.column = c.vertex_at-from.ensures.value ∙ ap (λ (g : GridData). vertex_at g c.args.column) c.grid-grid.ensures.value in
    let here : IsColumnStencil m.grid ones end rise s = subst (λ (g : GridData). IsColumnStencil g ones end rise s) c.grid-grid.ensures.value
    (column_round c.grid-grid.result.now end t.result rise s t.ensures.fits t.ensures.round c.column_of_cell.ensures.below c.column_of_cell.ensures.value refl refl
    (omega (arith, ints, c.climb_from.ensures.small)) c.climb_from.ensures.small) in
    subst (λ (z : ℤ). IsColumnStencil m.grid ones (moved m (vertex_at m.grid c.args.column) a q) z s) (c.climb_from.ensures.value ∙ ap (λ (y : Vertex). climb_from m y a q) from)
    (subst (λ (p : Point). IsColumnStencil m.grid ones p rise s) (c.moved_from.ensures.value ∙ ap (λ (y : Vertex). moved m y a q) from) here)

pub moved_from-requires : goal.moved_from-requires
moved_from-requires c = search rules

pub cell_near-cell-requires : goal.cell_near-cell-requires
cell_near-cell-requires c = search rules

pub climb_from-requires : goal.climb_from-requires
climb_from-requires c = search rules

pub overflow_cast-result-3 : goal.overflow_cast-result-3
overflow_cast-result-3 c = search rules
