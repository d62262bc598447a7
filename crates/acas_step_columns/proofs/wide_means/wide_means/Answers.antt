use Rattle.std.proofs.Common.{◌≡◌, ℕ, ◌*◌, ◌^◌, ◌≤◌, length, pos, w64, to_z, of_z, FitsSigned, ap, sym, ◌∙◌, arith}
use Rattle.std.proofs.lemmas.Int.{fits_signed_from_abs, ints, to_z-of_z}
use Rattle.std.proofs.lemmas.Nat.{mul-le}
use Rattle.acas_spec.specs.Model.{ModelData, total_weight}
use Rattle.acas_frac.specs.Rounding.{down, up}
use Rattle.acas_grid.specs.States.{vertex_at}
use Rattle.acas_means.specs.Columns.{vertex_in}
use Rattle.acas_step_narrow.specs.Narrow.{weights_below}
use Rattle.acas_step_narrow.specs.WideSums.{as_raised}
use Rattle.acas_step_narrow.proofs.RaisedLaws.{down-raised, up-raised}
use Rattle.acas_step_narrow.proofs.CornerSums.{lowered_is, quotient-most, quotient_down-most}
use Rattle.acas_step_narrow.proofs.RaisedMeans.{means_of_all, whole_weight}
use Rattle.acas_step_columns.proofs.wide_means.wide_means.Goals as goal

-- sums of all sigma points are no more than values up to so much give, raised
sum_most : (m : ModelData) (by total sum : ℕ) → total ≡ total_weight m → sum ≤ 2 * by * weights_below m (length m.sigmas) → sum ≤ 2 * by * total
sum_most m by total sum is within = omega (arith, within, ap (λ (w : ℕ). 2 * by * w) (whole_weight m ∙ sym is))

-- so they can be divided by the whole weight
sum_room : (m : ModelData) (by total sum : ℕ) → 2 * by ≤ 2 ^ 62 → total ≡ total_weight m →
    sum ≤ 2 * by * weights_below m (length m.sigmas) → sum ≤ 2 ^ 62 * total
sum_room m by total sum few is within =
    omega (arith, sum_most m by total sum is within, mul-le (2 * by) total (2 ^ 62) total few (omega arith))

pub lowered-requires-clause-within : goal.lowered-requires-clause-within
lowered-requires-clause-within c =
    let by = c.args.over.now.reach.size in
    let total = c.args.over.now.stencils.now.total.by in
    let sum = c.wide_sums-sums.result.upper in
    let are = c.requires.column.usable.stencils in
    omega (arith, c.up_wide.ensures, quotient-most sum total (2 * by) are.total.some (sum_most c.args.over.now.model.now by total sum are.by c.wide_sums-sums.ensures.within.upper))

pub up_wide-requires-clause-room : goal.up_wide-requires-clause-room
up_wide-requires-clause-room c =
    sum_room c.args.over.now.model.now c.args.over.now.reach.size c.args.over.now.stencils.now.total.by c.wide_sums-sums.result.upper
    (omega (arith, c.requires.size))
    c.requires.column.usable.stencils.by c.wide_sums-sums.ensures.within.upper

pub down_wide-requires-clause-room : goal.down_wide-requires-clause-room
down_wide-requires-clause-room c =
    sum_room c.args.over.now.model.now c.args.over.now.reach.size c.args.over.now.stencils.now.total.by c.wide_sums-sums.result.lower
    (omega (arith, c.requires.size))
    c.requires.column.usable.stencils.by c.wide_sums-sums.ensures.within.lower

pub lowered-requires-2-clause-within : goal.lowered-requires-2-clause-within
lowered-requires-2-clause-within c =
    let by = c.args.over.now.reach.size in
    let total = c.args.over.now.stencils.now.total.by in
    let sum = c.wide_sums-sums.result.lower in
    let are = c.requires.column.usable.stencils in
    omega (arith, c.down_wide.ensures, quotient_down-most sum total (2 * by) are.total.some (sum_most c.args.over.now.model.now by total sum are.by c.wide_sums-sums.ensures.within.lower))

pub returns : goal.returns
returns c =
    let m = c.args.over.now.model.now in
    let by = c.args.over.now.reach.size in
    let total = c.args.over.now.stencils.now.total.by in
    let are = c.requires.column.usable.stencils in
    let some = are.total.some in
    let sums = c.wide_sums-sums in
    let most_upper = quotient-most sums.result.upper total (2 * by) some (sum_most m by total sums.result.upper are.by sums.ensures.within.upper) in
    let most_lower = quotient_down-most sums.result.lower total (2 * by) some (sum_most m by total sums.result.lower are.by sums.ensures.within.lower) in
    let higher : FitsSigned w64 c.lowered.result = fits_signed_from_abs w64 c.lowered.result (omega (arith, ints, c.lowered.ensures, c.up_wide.ensures, most_upper, c.requires.size)) in
    let lower : FitsSigned w64 c.lowered-2.result = fits_signed_from_abs w64 c.lowered-2.result (omega (arith, ints, c.lowered-2.ensures, c.down_wide.ensures, most_lower, c.requires.size)) in
    means_of_all m c.args.over.now.below.now by total (vertex_at m.grid (vertex_in m.grid c.args.column c.args.i)) c.args.advisory (as_raised c.wide_sums-sums.result)
    (record { upper = to_z w64 (of_z w64 c.lowered.result); lower = to_z w64 (of_z w64 c.lowered-2.result) }) c.requires.column.usable.stencils.by c.wide_sums-sums.ensures
    (λ x is. to_z-of_z w64 c.lowered.result higher ∙ lowered_is c.up_wide.result by (up x (pos total)) c.lowered.result (ap pos c.up_wide.ensures ∙ up-raised x total by c.wide_sums-sums.result.upper some is) c.lowered.ensures)
    (λ x is. to_z-of_z w64 c.lowered-2.result lower ∙ lowered_is c.down_wide.result by (down x (pos total)) c.lowered-2.result (ap pos c.down_wide.ensures ∙ down-raised x total by c.wide_sums-sums.result.lower some is) c.lowered-2.ensures)
