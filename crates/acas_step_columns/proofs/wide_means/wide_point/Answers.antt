use Rattle.std.proofs.Common.{◌≡◌, ℕ, ◌+◌, ◌*◌, ◌<◌, ◌≤◌, pos, ◌+ℤ◌, List, length, refl, inl, inr, ap, ◌∙◌, arith}
use Rattle.std.proofs.lemmas.Grind.{common_steps}
use Rattle.acas_spec.specs.Model.{GridData, states, vertices}
use Rattle.acas_spec.specs.declared.place.Point.{Point}
use Rattle.acas_grid.specs.Grid.{vertex_number}
use Rattle.acas_grid.specs.States.{vertex_at}
use Rattle.acas_frac.specs.Rounding.{down, up}
use Rattle.acas_process.specs.Step.{moved}
use Rattle.acas_means.specs.Columns.{columns, vertex_in}
use Rattle.acas_step.specs.Ends.{weight_of_cell}
use Rattle.acas_means.specs.Layer.{AreWithin}
use Rattle.acas_means.specs.declared.layer.Side.{Side}
use Rattle.acas_means.specs.declared.layer.Side.TheVariants.{Upper, Lower}
use Rattle.acas_units.specs.declared.pair.Pair.{Pair}
use Rattle.acas_step_narrow.specs.Narrow.{sum_over}
use Rattle.acas_step_narrow.specs.Raised.{along_h, raised_at}
use Rattle.acas_step_narrow.proofs.RaisedLaws.{down-raised, up-raised}
use Rattle.acas_step_narrow.proofs.CornerSums.{cell-light, corners-le, corners_inside, corners_raised, quotient-most, quotient_down-most, sum-fits}
use Rattle.acas_step_stencils.specs.Cells.{IsKnownCell}
use Rattle.acas_step_stencils.specs.declared.stencils.UnitCell.{UnitCell}
use Rattle.acas_step_columns.proofs.UnitSums.{interpolated_in}
use Rattle.acas_step_columns.proofs.wide_means.wide_point.Goals as goal

-- the corners of a cell under an advisory are in the layer
corners : (g h : GridData) (at : UnitCell) (first count row plane : ℕ) → IsKnownCell g at → count ≡ states g → first + vertices h ≤ states h → row ≡ length h.v1 → plane ≡ columns h → h ≡ g →
    first + at.base + plane + row + 1 < count
corners g h at first count row plane known all room wide high same =
    let fits : first + vertices g ≤ count = omega (arith, all, room, ap (λ (d : GridData). vertices d) same, ap (λ (d : GridData). states d) same) in
    let inside = corners_inside g at.cell first count (first + at.base) known.fits (ap (λ (n : ℕ). first + n) known.base) fits in
    omega (arith, inside, wide, high, ap (λ (d : GridData). length d.v1) same, ap (λ (d : GridData). columns d) same)

pub first_state-first-requires : goal.first_state-first-requires
first_state-first-requires c = grind (arith, common_steps)

pub overflow_add-place : goal.overflow_add-place
overflow_add-place c = grind (arith, common_steps)

pub corner_sums-sums-requires-clause-place : goal.corner_sums-sums-requires-clause-place
corner_sums-sums-requires-clause-place c =
    corners c.args.over.now.model.now.grid _ c.unit_cell-at.result c.first_state-first.result _ c.len-row.result c.column_count-plane.result c.unit_cell-at.ensures.known c.requires.column.below c.first_state-first.ensures.room
    (c.len-row.ensures.value ∙ ap (λ (d : GridData). length d.v1) c.grid.view_is) c.column_count-plane.ensures c.grid-grid.ensures.value

-- no sum is more than values up to so much give, raised
most : (g : GridData) (at : UnitCell) (first row plane by sum : ℕ) (side : Side) (below : List Pair) → IsKnownCell g at → first + at.base + plane + row + 1 < length below → AreWithin by side below →
    sum ≡ along_h at.cell row plane (raised_at by side below) (first + at.base) → sum ≤ 2 * by * at.divisor.by
most g at first row plane by sum side below known here within is =
    omega (arith, is, corners-le at.cell row plane (first + at.base) by side below within here, ap (λ (n : ℕ). 2 * by * n) known.by)

pub corner_sums-sums-requires-clause-upper : goal.corner_sums-sums-requires-clause-upper
corner_sums-sums-requires-clause-upper c = grind (arith, common_steps)

pub up_wide-requires-clause-by : goal.up_wide-requires-clause-by
up_wide-requires-clause-by c =
    let known = c.unit_cell-at.ensures.known in
    omega (arith, known.by, cell-light c.args.over.now.model.now.grid c.unit_cell-at.result.cell known.fits)

pub up_wide-requires-clause-room : goal.up_wide-requires-clause-room
up_wide-requires-clause-room c =
    let sums = c.corner_sums-sums in
    let g : GridData = c.args.over.now.model.now.grid in
    let at = c.unit_cell-at in
    let here = corners g _ at.result c.first_state-first.result _ c.len-row.result c.column_count-plane.result at.ensures.known c.requires.column.below c.first_state-first.ensures.room
    (c.len-row.ensures.value ∙ ap (λ (d : GridData). length d.v1) c.grid.view_is) c.column_count-plane.ensures c.grid-grid.ensures.value in
    let within = most g at.result c.first_state-first.result c.len-row.result c.column_count-plane.result c.args.over.now.reach.size sums.result.upper Upper c.args.over.now.below.now at.ensures.known here c.requires.column.reach.upper sums.ensures.upper in
    sum-fits sums.result.upper at.result.divisor.by c.args.over.now.reach.size c.requires.size within

pub down_wide-requires-clause-by : goal.down_wide-requires-clause-by
down_wide-requires-clause-by c =
    let known = c.unit_cell-at.ensures.known in
    omega (arith, known.by, cell-light c.args.over.now.model.now.grid c.unit_cell-at.result.cell known.fits)

pub down_wide-requires-clause-room : goal.down_wide-requires-clause-room
down_wide-requires-clause-room c =
    let sums = c.corner_sums-sums in
    let g : GridData = c.args.over.now.model.now.grid in
    let at = c.unit_cell-at in
    let here = corners g _ at.result c.first_state-first.result _ c.len-row.result c.column_count-plane.result at.ensures.known c.requires.column.below c.first_state-first.ensures.room
    (c.len-row.ensures.value ∙ ap (λ (d : GridData). length d.v1) c.grid.view_is) c.column_count-plane.ensures c.grid-grid.ensures.value in
    let within = most g at.result c.first_state-first.result c.len-row.result c.column_count-plane.result c.args.over.now.reach.size sums.result.lower Lower c.args.over.now.below.now at.ensures.known here c.requires.column.reach.lower sums.ensures.lower in
    sum-fits sums.result.lower at.result.divisor.by c.args.over.now.reach.size c.requires.size within

pub returns : goal.returns
returns c =
    let m = c.args.over.now.model.now in
    let g : GridData = m.grid in
    let u = c.args.over.now.stencils.now.units in
    let by = c.args.over.now.reach.size in
    let a = c.args.key.advisory in
    let below = c.args.over.now.below.now in
    let at = c.unit_cell-at.result in
    let t = at.cell in
    let first : ℕ = a * vertices g in
    let n : ℕ = c.first_state-first.result + at.base in
    let s : Point = moved m (vertex_at g (vertex_in g c.args.key.column c.args.i)) a c.args.key.sigma in
    let is = c.unit_cell-at.ensures in
    let some : 0 < weight_of_cell t = omega (arith, is.known.divisor.some, is.known.by) in
    let begins : c.first_state-first.result ≡ first = c.first_state-first.ensures.value ∙ ap (λ (d : GridData). a * vertices d) c.grid-grid.ensures.value in
    let corner : n ≡ first + vertex_number g (record { i = t.h.cell; j = t.v0.cell; k = t.v1.cell }) = ap (λ (k : ℕ). k + at.base) begins ∙ ap (λ (k : ℕ). first + k) is.known.base in
    let same = c.grid-grid.ensures.value in
    let inside : first + vertices g ≤ length below =
    omega (arith, c.requires.column.below, c.first_state-first.ensures.room, begins, ap (λ (d : GridData). vertices d) same, ap (λ (d : GridData). states d) same) in
    let row : c.len-row.result ≡ length g.v1 = c.len-row.ensures.value ∙ ap (λ (d : GridData). length d.v1) (c.grid.view_is ∙ same) in
    let plane : c.column_count-plane.result ≡ columns g = c.column_count-plane.ensures ∙ ap (λ (d : GridData). columns d) same in
    let here = corners g _ at c.first_state-first.result (length below) c.len-row.result c.column_count-plane.result is.known c.requires.column.below c.first_state-first.ensures.room
    (c.len-row.ensures.value ∙ ap (λ (d : GridData). length d.v1) c.grid.view_is) c.column_count-plane.ensures same in
    let within : (side : Side) → AreWithin by side below → (sum : ℕ) → sum ≡ along_h t c.len-row.result c.column_count-plane.result (raised_at by side below) n → sum ≤ 2 * by * at.divisor.by =
    λ side small sum is_sum. most g at c.first_state-first.result c.len-row.result c.column_count-plane.result by sum side below is.known here small is_sum in
    let shape : (f : ℕ → ℕ) → along_h t c.len-row.result c.column_count-plane.result f n ≡ along_h t (length g.v1) (length g.v0 * length g.v1) f n =
    λ f. ap (λ (r : ℕ). along_h t r c.column_count-plane.result f n) row ∙ ap (λ (p : ℕ). along_h t (length g.v1) p f n) plane in
    let sums = c.corner_sums-sums in
    let higher = corners_raised g t first n by sums.result.upper at.divisor.by Upper below is.known.fits corner inside c.requires.column.reach.upper is.known.by (sums.ensures.upper ∙ shape (raised_at by Upper below)) in
    let lower = corners_raised g t first n by sums.result.lower at.divisor.by Lower below is.known.fits corner inside c.requires.column.reach.lower is.known.by (sums.ensures.lower ∙ shape (raised_at by Lower below)) in
    let x = sum_over g t first Upper below in
    let y = sum_over g t first Lower below in
    record {
      upper = ap pos c.up_wide.ensures
          ∙ up-raised x at.divisor.by by sums.result.upper is.known.divisor.some higher
          ∙ ap (λ (k : ℕ). up x (pos k) +ℤ pos by) is.known.by
          ∙ ap (λ z. z +ℤ pos by) (interpolated_in up (inr refl) m u s t a Upper below c.grid-grid.ensures.valid c.requires.column.usable.stencils.units is.round some);
      lower = ap pos c.down_wide.ensures
          ∙ down-raised y at.divisor.by by sums.result.lower is.known.divisor.some lower
          ∙ ap (λ (k : ℕ). down y (pos k) +ℤ pos by) is.known.by
          ∙ ap (λ z. z +ℤ pos by) (interpolated_in down (inl refl) m u s t a Lower below c.grid-grid.ensures.valid c.requires.column.usable.stencils.units is.round some);
      within = record {
        upper = omega (arith, c.up_wide.ensures, quotient-most sums.result.upper at.divisor.by (2 * by) is.known.divisor.some (within Upper c.requires.column.reach.upper sums.result.upper sums.ensures.upper));
        lower = omega (arith, c.down_wide.ensures, quotient_down-most sums.result.lower at.divisor.by (2 * by) is.known.divisor.some (within Lower c.requires.column.reach.lower sums.result.lower sums.ensures.lower));
      };
    }

pub corner_sums-sums-requires-clause-lower : goal.corner_sums-sums-requires-clause-lower
corner_sums-sums-requires-clause-lower c = grind (arith, common_steps)

pub up_wide-requires-clause-divisor : goal.up_wide-requires-clause-divisor
up_wide-requires-clause-divisor c = grind (arith, common_steps)

pub down_wide-requires-clause-divisor : goal.down_wide-requires-clause-divisor
down_wide-requires-clause-divisor c = grind (arith, common_steps)
