use Rattle.std.proofs.Common.{◌≡◌, ℕ, ◌*◌, ◌/◌, ◌%◌, ◌<◌, length, ap, ◌∙◌, arith}
use Rattle.std.proofs.lemmas.Nat.{div_below, mod_below}
use Rattle.acas_spec.specs.Model.{ModelData}
use Rattle.acas_grid.proofs.Vertices.{some_width}
use Rattle.acas_means.specs.Columns.{columns}
use Rattle.acas_step_stencils.proofs.column_stencils.stencil_at.Goals as goal

-- the column and the advisory of a stencil by its number
module _ (m : ModelData) (n w p : ℕ) (h : n < m.grid.advisories * columns m.grid * length m.sigmas) (wide : w ≡ columns m.grid) (long : p ≡ length m.sigmas) where
  row : n / p < m.grid.advisories * w
  row = let below : n < m.grid.advisories * w * p = rw (wide, long) h in div_below n p (m.grid.advisories * w) (some_width (m.grid.advisories * w) p n below) below

  width : 0 < w
  width = some_width m.grid.advisories w (n / p) row

  column : n / p % w < columns m.grid
  column = omega (arith, mod_below (n / p) w width, wide)

  advisory : n / p / w < m.grid.advisories
  advisory = div_below (n / p) w m.grid.advisories width row

pub nonzero_rem-row : goal.nonzero_rem-row
nonzero_rem-row c = omega (arith, width c.args.model.now c.args.number c.column_count-columns.result (length c.points.result.now) c.requires (c.column_count-columns.ensures ∙ ap columns c.grid.ensures.value) (ap length c.points.ensures))

pub nonzero_div-row-2 : goal.nonzero_div-row-2
nonzero_div-row-2 c = nonzero_rem-row c

pub column_stencil-requires-clause-column : goal.column_stencil-requires-clause-column
column_stencil-requires-clause-column c =
    column c.args.model.now c.args.number c.column_count-columns.result (length c.points.result.now) c.requires (c.column_count-columns.ensures ∙ ap columns c.grid.ensures.value) (ap length c.points.ensures)

pub column_stencil-requires-clause-advisory : goal.column_stencil-requires-clause-advisory
column_stencil-requires-clause-advisory c =
    advisory c.args.model.now c.args.number c.column_count-columns.result (length c.points.result.now) c.requires (c.column_count-columns.ensures ∙ ap columns c.grid.ensures.value) (ap length c.points.ensures)

pub overflow_cast-row : goal.overflow_cast-row
overflow_cast-row c = omega (arith, column_stencil-requires-clause-advisory c, c.grid.ensures.valid.grid.few_advisories)
