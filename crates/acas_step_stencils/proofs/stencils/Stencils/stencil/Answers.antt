use Rattle.std.proofs.Common.{◌≡◌, ℕ, ◌<◌, to_z, of_z, w32, List, length, get_or, ap, subst, ◌∙◌, arith}
use Rattle.std.proofs.lemmas.Int.{ints}
use Rattle.acas_spec.specs.Model.{GridData, vertices}
use Rattle.acas_means.specs.Columns.{vertex_in}
use Rattle.acas_step_stencils.specs.Heights.{IsLedTo}
use Rattle.acas_step_stencils.proofs.HeightLaws.{first_height}
use Rattle.acas_step_stencils.proofs.ColumnHeights.{column-IsStencil}
use Rattle.acas_step_stencils.proofs.stencils.Stencils.stencil.Goals as goal

pub place_by_search-at-requires-clause-some : goal.place_by_search-at-requires-clause-some
place_by_search-at-requires-clause-some c =
    omega (arith, ap (λ (hs : List ℕ). length hs) c.deref.ensures.value, c.requires.stencil.usable.stencils.heights.count, c.grid-grid.ensures.valid.grid.altitudes.at_least)

pub place_by_search-at-requires-clause-short : goal.place_by_search-at-requires-clause-short
place_by_search-at-requires-clause-short c =
    omega (arith, ap (λ (hs : List ℕ). length hs) c.deref.ensures.value, c.requires.stencil.usable.stencils.heights.count, c.grid-grid.ensures.valid.grid.altitudes.at_most)

pub place_by_search-at-requires-clause-first : goal.place_by_search-at-requires-clause-first
place_by_search-at-requires-clause-first c =
    let m = c.args.model.now in
    let all = c.args.self.now in
    let are = c.requires.stencil.usable.stencils in
    ap (λ (hs : List ℕ). get_or hs 0 0) c.deref.ensures.value ∙ first_height m.grid.h all.units.h all.heights.items are.units.h (omega (arith, c.requires.place)) are.heights

pub returns : goal.returns
returns c =
    let m = c.args.model.now in
    let all = c.args.self.now in
    let hs : List ℕ = all.heights.items in
    let are = c.requires.stencil.usable.stencils in
    let s = c.in_column-led.result in
    let x : ℕ = c.place_by_search-at.ensures.0 in
    let at = c.place_by_search-at.result in
    let fits : to_z w32 (of_z w32 s.climb) ≡ s.climb = omega (arith, ints, c.in_column-led.ensures.small) in
    let led : IsLedTo hs c.args.i s.climb x at =
    subst (λ (list : List ℕ). IsLedTo list c.args.i s.climb x at) c.deref.ensures.value (rw (fits) at c.place_by_search-at.ensures.1) in
    let stencil = c.stencil_of in
    let base = stencil.ensures.base ∙ ap (λ (g : GridData). vertex_in g s.column at.place) c.grid-grid.ensures.value in
    let below : stencil.result.base < vertices m.grid = omega (arith, stencil.ensures.below, ap vertices c.grid-grid.ensures.value) in
    column-IsStencil m all.units hs c.args.key.column c.args.i c.args.key.advisory c.args.key.sigma s x at stencil.result c.grid-grid.ensures.valid.grid are.units are.heights c.requires.stencil.column c.requires.place
    c.in_column-led.ensures led below base stencil.ensures.h stencil.ensures.v0 stencil.ensures.v1
