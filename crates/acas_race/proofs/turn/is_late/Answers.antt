use Rattle.std.proofs.Common.{◌≡◌, ◌*◌, ◌≤◌, refl, arith, pos, ◌+ℤ◌, ◌-ℤ◌, to_z, of_z, mul-le-mul}
use Rattle.std.specs.Int.{w64}
use Rattle.std.proofs.lemmas.Int.{ints}
use Rattle.acas_units.specs.declared.limits.TheConstants.{GREATEST_DELAY, GREATEST_LIMIT}
use Rattle.acas_race.proofs.turn.is_late.Goals as goal

pub overflow_add-own : goal.overflow_add-own
overflow_add-own c = omega (arith, ints, c.scaled.ensures.size, c.scaled-2.ensures.size)

pub overflow_add-other : goal.overflow_add-other
overflow_add-other c =
    let p : c.args.held * c.args.contest.now.accel ≤ (GREATEST_DELAY * GREATEST_LIMIT) * GREATEST_LIMIT = mul-le-mul c.requires.size c.args.contest.now.fits.accel in
    omega (arith, ints, c.scaled-3.ensures.size, p)

pub returns : goal.returns
returns c =
    let v : to_z w64 (of_z w64 c.args.contest.now.chase.start) ≡ c.args.contest.now.chase.start = omega (arith, ints, c.args.contest.now.chase.fits.start) in
    let g : to_z w64 (of_z w64 c.args.contest.now.goal) ≡ c.args.contest.now.goal = omega (arith, ints, c.args.contest.now.fits.goal) in
    let d : to_z w64 (of_z w64 (to_z w64 (of_z w64 c.args.contest.now.goal) -ℤ to_z w64 (of_z w64 c.args.contest.now.chase.rate))) ≡ c.args.contest.now.goal -ℤ c.args.contest.now.chase.rate = omega (arith, ints, c.args.contest.now.fits.goal, c.args.contest.now.chase.fits.rate) in
    let o = rw v at c.scaled.ensures.value in
    let p = rw d at c.scaled-2.ensures.value in
    let q = rw g at c.scaled-3.ensures.value in
    let h : c.args.held * c.args.contest.now.accel ≤ (GREATEST_DELAY * GREATEST_LIMIT) * GREATEST_LIMIT = mul-le-mul c.requires.size c.args.contest.now.fits.accel in
    let a : to_z w64 (of_z w64 (to_z w64 (of_z w64 c.scaled.result) +ℤ to_z w64 (of_z w64 c.scaled-2.result))) ≡ c.scaled.result +ℤ c.scaled-2.result = omega (arith, ints, c.scaled.ensures.size, c.scaled-2.ensures.size) in
    let b : to_z w64 (of_z w64 (to_z w64 (of_z w64 c.scaled-3.result) +ℤ to_z w64 (c.args.held * c.args.contest.now.accel))) ≡ c.scaled-3.result +ℤ pos (c.args.held * c.args.contest.now.accel) = omega (arith, ints, c.scaled-3.ensures.size, h) in
    rw (a, b, o, p, q, c.requires.held) refl
