use Rattle.std.proofs.Common.{◌≡◌, ℕ, ◌*◌, ◌+◌, ◌/◌, ◌%◌, ◌<◌, length, ap, sym, subst, ◌∙◌, arith}
use Rattle.std.proofs.lemmas.Nat.{div_below, div-add-mod', mod_below}
use Rattle.std.proofs.lemmas.Grind.{common_steps}
use Rattle.acas_spec.specs.Model.{GridData}
use Rattle.acas_grid.specs.States.{vertex_at}
use Rattle.acas_grid.proofs.Vertices.{some_width}
use Rattle.acas_process.specs.Step.{moved}
use Rattle.acas_means.specs.Columns.{columns, vertex_in}
use Rattle.acas_step.specs.Ends.{FitsGrid, IsRound}
use Rattle.acas_means.proofs.ColumnLaws.{all_columns}
use Rattle.acas_step_stencils.specs.Stencils.{HaveStencil, IsStencil}
use Rattle.acas_step_stencils.proofs.stencils.Stencils.cell.Goals as goal

pub stencil-stencil-requires : goal.stencil-stencil-requires
stencil-stencil-requires c =
    let m = c.args.model.now in
    let v : ℕ = c.args.vertex in
    let inside : v < length m.grid.h * columns m.grid = omega (arith, c.requires.vertex, all_columns m.grid) in
    let width = some_width (length m.grid.h) (columns m.grid) v inside in
    let wide : c.column_count-columns.result ≡ columns m.grid = c.column_count-columns.ensures ∙ ap columns c.grid-grid.ensures.value in
    record {
      stencil = subst (λ (w : ℕ). HaveStencil m c.args.self.now (record { column = v % w; advisory = c.args.advisory; sigma = c.args.sigma })) (sym wide)
          (record { usable = c.requires.usable; column = mod_below v (columns m.grid) width; advisory = c.requires.advisory; sigma = c.requires.sigma });
      place = subst (λ (w : ℕ). v / w < length m.grid.h) (sym wide) (div_below v (columns m.grid) (length m.grid.h) width inside);
    }

pub cell_of_stencil-requires-clause-stencil : goal.cell_of_stencil-requires-clause-stencil
cell_of_stencil-requires-clause-stencil c = grind (arith, common_steps)

pub returns-clause-round : goal.returns-clause-round
returns-clause-round c =
    let m = c.args.model.now in
    let v : ℕ = c.args.vertex in
    let w : ℕ = c.column_count-columns.result in
    let wide : w ≡ columns m.grid = c.column_count-columns.ensures ∙ ap columns c.grid-grid.ensures.value in
    let same : v / w * columns m.grid + v % w ≡ v = subst (λ (n : ℕ). v / n * columns m.grid + v % n ≡ v) (sym wide) (div-add-mod' v (columns m.grid)) in
    let s = moved m (vertex_at m.grid (vertex_in m.grid (v % w) (v / w))) c.args.advisory c.args.sigma in
    let is = subst (λ (g : GridData). IsStencil g c.args.self.now.units s c.stencil-stencil.result) (sym c.grid-grid.ensures.value) c.stencil-stencil.ensures in
    let round : IsRound m.grid s c.cell_of_stencil.result = subst (λ (g : GridData). IsRound g s c.cell_of_stencil.result) c.grid-grid.ensures.value (c.cell_of_stencil.ensures.round s is) in
    subst (λ (n : ℕ). IsRound m.grid (moved m (vertex_at m.grid n) c.args.advisory c.args.sigma) c.cell_of_stencil.result) same round

pub returns-clause-fits : goal.returns-clause-fits
returns-clause-fits c = subst (λ (g : GridData). FitsGrid g c.cell_of_stencil.result) c.grid-grid.ensures.value c.cell_of_stencil.ensures.fits

pub nonzero_rem-key : goal.nonzero_rem-key
nonzero_rem-key c = grind (arith, common_steps)

pub nonzero_div-vertex : goal.nonzero_div-vertex
nonzero_div-vertex c = grind (arith, common_steps)
