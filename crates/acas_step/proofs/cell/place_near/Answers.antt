use Rattle.std.proofs.Common.{SFits, w64, ◌+◌, ◌<ℤ◌, ◌≤ℤ◌, arith}
use Rattle.std.proofs.lemmas.Int.{ints, to_z-of_z}
use Rattle.acas_spec.specs.Axis.{place_value}
use Rattle.acas_grid.proofs.Cells.{cell_from}
use Rattle.acas_step.proofs.cell.place_near.Goals as goal

pub returns-else-value-x : goal.returns-else-value-x
returns-else-value-x c =
    let axis = c.args.axis.now in
    let place = c.loop-place-2.place in
    let fits : SFits w64 c.args.x = c.ranges.x in
    let lower : place_value axis place ≤ℤ c.args.x = simp to_z-of_z at c.loop-place-2.invariant.lower in
    let next : c.args.x <ℤ place_value axis (place + 1) = omega (arith, ints, c.if-value-x.false, c.value-in-loop-place-2.ensures.value) in
    cell_from axis place c.args.x c.len-last.ensures.axis.rising (omega (arith, c.loop-place-2-test.true, c.len-last.ensures.value)) lower (omega (arith, ints, next)) (λ _. next)
