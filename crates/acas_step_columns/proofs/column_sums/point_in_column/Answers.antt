use Rattle.std.proofs.Common.{◌+◌, ◌<◌, ◌≤◌, length, refl, inl, inr, arith}
use Rattle.std.proofs.lemmas.Grind.{common_steps}
use Rattle.acas_spec.specs.declared.place.Point.{Point}
use Rattle.acas_frac.specs.Rounding.{down, up}
use Rattle.acas_grid.specs.States.{vertex_at}
use Rattle.acas_process.specs.Step.{moved}
use Rattle.acas_means.specs.Columns.{vertex_in}
use Rattle.acas_step.specs.Ends.{weight_of_cell}
use Rattle.acas_step_narrow.specs.Raised.{raised_in}
use Rattle.acas_means.specs.declared.layer.Side.TheVariants.{Upper, Lower}
use Rattle.acas_step_narrow.proofs.ColumnSizes.{column-HaveRoom, column_point-le, column_sum-le, column_sum-room}
use Rattle.acas_step_columns.proofs.ColumnPoints.{column_point}
use Rattle.acas_step_columns.proofs.column_sums.point_in_column.Goals as goal

pub cell_at_rates-at-requires-clause-stencil : goal.cell_at_rates-at-requires-clause-stencil
cell_at_rates-at-requires-clause-stencil c = grind (arith, common_steps)

pub along_h-sums-requires-clause-place : goal.along_h-sums-requires-clause-place
along_h-sums-requires-clause-place c = grind (arith, common_steps)

pub along_h-sums-requires-clause-near : goal.along_h-sums-requires-clause-near
along_h-sums-requires-clause-near c =
    let at = c.cell_at_rates-at in
    let t = at.result.cell in
    let least : weight_of_cell t ≤ c.args.over.now.reach.widest = omega (arith, c.if-at-over.false, at.ensures.cell.known.by) in
    column-HaveRoom t c.args.rates.now c.args.over.now.reach.size c.args.over.now.reach.widest (raised_in c.args.blend_uppers.now c.args.blend_lowers.now t.h.cell) at.ensures.v0 at.ensures.v1 least c.requires.room
    (c.requires.within.each t.h.cell (omega (arith, at.ensures.cell.known.fits.h.place)))

pub along_h-sums-requires-clause-far : goal.along_h-sums-requires-clause-far
along_h-sums-requires-clause-far c =
    let at = c.cell_at_rates-at in
    let t = at.result.cell in
    let least : weight_of_cell t ≤ c.args.over.now.reach.widest = omega (arith, c.if-at-over.false, at.ensures.cell.known.by) in
    column-HaveRoom t c.args.rates.now c.args.over.now.reach.size c.args.over.now.reach.widest (raised_in c.args.blend_uppers.now c.args.blend_lowers.now (t.h.cell + 1)) at.ensures.v0 at.ensures.v1 least c.requires.room
    (c.requires.within.each (t.h.cell + 1) at.ensures.cell.known.fits.h.place)

pub quotient_up-requires-clause-room : goal.quotient_up-requires-clause-room
quotient_up-requires-clause-room c =
    let at = c.cell_at_rates-at in
    let t = at.result.cell in
    let near = c.requires.within.each t.h.cell (omega (arith, at.ensures.cell.known.fits.h.place)) in
    let far = c.requires.within.each (t.h.cell + 1) at.ensures.cell.known.fits.h.place in
    let most = column_sum-le t c.args.rates.now c.args.over.now.reach.size (raised_in c.args.blend_uppers.now c.args.blend_lowers.now t.h.cell).upper (raised_in c.args.blend_uppers.now c.args.blend_lowers.now (t.h.cell + 1)).upper at.ensures.v0 at.ensures.v1 near.upper far.upper in
    let least : weight_of_cell t ≤ c.args.over.now.reach.widest = omega (arith, c.if-at-over.false, at.ensures.cell.known.by) in
    omega (arith, at.ensures.cell.known.by, column_sum-room c.along_h-sums.result.upper (weight_of_cell t) c.args.over.now.reach.size c.args.over.now.reach.widest (omega (arith, c.along_h-sums.ensures.upper, most)) least c.requires.room)

pub quotient_down-requires-clause-room : goal.quotient_down-requires-clause-room
quotient_down-requires-clause-room c =
    let at = c.cell_at_rates-at in
    let t = at.result.cell in
    let near = c.requires.within.each t.h.cell (omega (arith, at.ensures.cell.known.fits.h.place)) in
    let far = c.requires.within.each (t.h.cell + 1) at.ensures.cell.known.fits.h.place in
    let most = column_sum-le t c.args.rates.now c.args.over.now.reach.size (raised_in c.args.blend_uppers.now c.args.blend_lowers.now t.h.cell).lower (raised_in c.args.blend_uppers.now c.args.blend_lowers.now (t.h.cell + 1)).lower at.ensures.v0 at.ensures.v1 near.lower far.lower in
    let least : weight_of_cell t ≤ c.args.over.now.reach.widest = omega (arith, c.if-at-over.false, at.ensures.cell.known.by) in
    omega (arith, column_sum-room c.along_h-sums.result.lower (weight_of_cell t) c.args.over.now.reach.size c.args.over.now.reach.widest (omega (arith, c.along_h-sums.ensures.lower, most)) least c.requires.room)

pub returns-clause-within : goal.returns-clause-within
returns-clause-within c =
    let at = c.cell_at_rates-at in
    let t = at.result.cell in
    let is = at.ensures.cell.known in
    let low = raised_in c.args.blend_uppers.now c.args.blend_lowers.now t.h.cell in
    let high = raised_in c.args.blend_uppers.now c.args.blend_lowers.now (t.h.cell + 1) in
    let near = c.requires.within.each t.h.cell (omega (arith, is.fits.h.place)) in
    let far = c.requires.within.each (t.h.cell + 1) is.fits.h.place in
    let sums = c.along_h-sums in
    record {
      upper = column_point-le t c.args.rates.now c.args.over.now.reach.size at.result.divisor.by low.upper high.upper sums.result.upper c.quotient_up.result is.by at.ensures.v0 at.ensures.v1 near.upper far.upper sums.ensures.upper c.quotient_up.ensures.within;
      lower = column_point-le t c.args.rates.now c.args.over.now.reach.size at.result.divisor.by low.lower high.lower sums.result.lower c.quotient_down.result is.by at.ensures.v0 at.ensures.v1 near.lower far.lower sums.ensures.lower c.quotient_down.ensures.within;
    }

pub returns-clause-point : goal.returns-clause-point
returns-clause-point c = λ below count upper lower are.
    let m = c.args.over.now.model.now in
    let u = c.args.over.now.stencils.now.units in
    let by = c.args.over.now.reach.size in
    let rates = c.args.rates.now in
    let at = c.cell_at_rates-at in
    let t = at.result.cell in
    let s : Point = moved m (vertex_at m.grid (vertex_in m.grid c.args.key.column c.args.i)) c.args.key.advisory c.args.key.sigma in
    let low = raised_in c.args.blend_uppers.now c.args.blend_lowers.now t.h.cell in
    let high = raised_in c.args.blend_uppers.now c.args.blend_lowers.now (t.h.cell + 1) in
    let above = at.ensures.cell.known.fits.h.place in
    let here : t.h.cell < length m.grid.h = omega (arith, above) in
    let sums = c.along_h-sums in
    record {
      upper = column_point up (inr refl) m u s at.result rates c.args.key.advisory by Upper below low.upper high.upper sums.result.upper c.quotient_up.result c.grid.ensures.valid c.requires.stencil.usable.stencils.units at.ensures.cell
          at.ensures.v0 at.ensures.v1 c.requires.stencil.advisory count upper (are.upper t.h.cell here) (are.upper (t.h.cell + 1) above) sums.ensures.upper c.quotient_up.ensures.value;
      lower = column_point down (inl refl) m u s at.result rates c.args.key.advisory by Lower below low.lower high.lower sums.result.lower c.quotient_down.result c.grid.ensures.valid c.requires.stencil.usable.stencils.units at.ensures.cell
          at.ensures.v0 at.ensures.v1 c.requires.stencil.advisory count lower (are.lower t.h.cell here) (are.lower (t.h.cell + 1) above) sums.ensures.lower c.quotient_down.ensures.value;
      within = returns-clause-within c;
    }

pub quotient_down-requires-clause-divisor : goal.quotient_down-requires-clause-divisor
quotient_down-requires-clause-divisor c = grind (arith, common_steps)

pub quotient_up-requires-clause-divisor : goal.quotient_up-requires-clause-divisor
quotient_up-requires-clause-divisor c = grind (arith, common_steps)
