use Rattle.std.proofs.Common.{◌≡◌, ◌<◌, length, refl, ap, sym, subst, ◌∙◌, arith}
use Rattle.acas_spec.specs.Model.{GridData, vertices}
use Rattle.acas_spec.specs.declared.place.Point.{Point}
use Rattle.acas_spec.specs.declared.place.Vertex.{Vertex}
use Rattle.acas_grid.specs.States.{vertex_at}
use Rattle.acas_process.specs.Step.{moved}
use Rattle.acas_frac.specs.declared.divisor.Divisor.{Divisor}
use Rattle.acas_means.specs.Columns.{vertex_in}
use Rattle.acas_step_stencils.specs.Stencils.{IsStencil}
use Rattle.acas_step_stencils.specs.Cells.{IsUnitCell}
use Rattle.acas_step_stencils.specs.declared.stencils.Stencil.{Stencil}
use Rattle.acas_step_stencils.proofs.ColumnCells.{base_at_rates, cell_at_rates, offset_at_rates}
use Rattle.acas_step_stencils.proofs.ColumnHeights.{column-IsStencil}
use Rattle.acas_step_stencils.proofs.ColumnVertices.{vertex_at-vertex_in}
use Rattle.acas_step_stencils.proofs.stencils.Stencils.cell_at_rates.Goals as goal
use Rattle.acas_step_stencils.proofs.stencils.Stencils.cell_at_rates.Goals.{After-size_above-size}

-- the point to which the second leads
abbrev point : After-size_above-size → Point
point c = moved c.args.model.now (vertex_at c.args.model.now.grid (vertex_in c.args.model.now.grid c.args.key.column c.args.i)) c.args.key.advisory c.args.key.sigma

-- its stencil
abbrev stencil : After-size_above-size → Stencil
stencil c = record { base = c.vertex_in_column-base.result; h = c.place_risen-at.result.offset; v0 = c.args.rise.led.v0; v1 = c.args.rise.led.v1 }

base : (c : After-size_above-size) → c.vertex_in_column-base.result ≡ vertex_in c.args.model.now.grid c.args.rise.led.column c.place_risen-at.result.place
base c = c.vertex_in_column-base.ensures.value ∙ ap (λ (g : GridData). vertex_in g c.args.rise.led.column c.place_risen-at.result.place) c.grid-grid.ensures.value

stencil-is : (c : After-size_above-size) → IsStencil c.args.model.now.grid c.args.self.now.units (point c) (stencil c)
stencil-is c =
    let m = c.args.model.now in
    let all = c.args.self.now in
    let are = c.requires.stencil.usable.stencils in
    let led = c.place_risen-at.ensures in
    column-IsStencil m all.units all.heights.items c.args.key.column c.args.i c.args.key.advisory c.args.key.sigma c.args.rise.led led.0 c.place_risen-at.result (stencil c) c.grid-grid.ensures.valid.grid are.units are.heights
    c.requires.stencil.column c.requires.place c.requires.rise.led led.1 (omega (arith, c.vertex_in_column-base.ensures.below, ap (λ (g : GridData). vertices g) c.grid-grid.ensures.value)) (base c) refl refl refl

pub ends_in-requires : goal.ends_in-requires
ends_in-requires c =
    let g : GridData = c.args.model.now.grid in
    let u = c.args.self.now.units in
    let t = c.args.rates.now in
    let n = c.vertex_in_column-base.result in
    let above = c.size_above-size.ensures.above in
    let is = stencil-is c in
    let within = offset_at_rates g u (point c) (stencil c) t n above.0 c.requires.stencil.usable.stencils.units is (base_at_rates g u (point c) (stencil c) t is c.requires.rates) above.1 in
    omega (arith, within, above.2)

pub returns-clause-cell : goal.returns-clause-cell
returns-clause-cell c =
    let before = c.before.before.before.before in
    let g : GridData = c.args.model.now.grid in
    let u = c.args.self.now.units in
    let t = c.args.rates.now in
    let n = c.vertex_in_column-base.result in
    let led = c.args.rise.led in
    let at = c.place_risen-at in
    let above = c.size_above-size.ensures.above in
    let e = c.ends_in in
    let x = point before in
    let s = stencil before in
    let is = stencil-is before in
    let here : at.result.place < length g.h = omega (arith, at.ensures.1.cell.before_last, c.requires.stencil.usable.stencils.heights.count) in
    let from = ap (vertex_at g) (base before) ∙ vertex_at-vertex_in g led.column at.result.place c.requires.rise.led.column here in
    let place : e.result.cell ≡ above.0.i = e.ensures.cell ∙ sym (above.1.i ∙ ap (λ (y : Vertex). y.i) from) in
    subst (λ (d : Divisor). IsUnitCell g u x (record { cell = record { h = e.result; v0 = t.v0; v1 = t.v1 }; base = n; divisor = d })) above.3
    (cell_at_rates g u x s t n above.0 e.result c.grid-grid.ensures.valid.grid c.requires.stencil.usable.stencils.units is c.requires.rates (base_at_rates g u x s t is c.requires.rates) above.1
    place (e.ensures.lower ∙ sym above.2) e.ensures.upper)
