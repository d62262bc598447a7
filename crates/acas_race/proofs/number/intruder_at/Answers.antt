use Rattle.std.proofs.Common.{◌≡◌, ◌∙◌, ap₂, ◌*◌, ◌≤◌, ℤ, pos, ◌+ℤ◌, ◌*ℤ◌, unsigned_abs, to_z, of_z, arith, mul-le-mul}
use Rattle.std.specs.Int.{w64, w128}
use Rattle.std.proofs.lemmas.Grind.{common_steps}
use Rattle.std.proofs.lemmas.Int.{ints}
use Rattle.acas_flight.proofs.Holding.{held-none}
use Rattle.acas_areas.specs.Sizes.{altitude_size}
use Rattle.acas_units.specs.declared.limits.TheConstants.{GREATEST_CLOSING, GREATEST_LIMIT}
use Rattle.acas_race.proofs.number.intruder_at.Goals as goal

pub times-height-requires-clause-by : goal.times-height-requires-clause-by
times-height-requires-clause-by c = grind (arith, common_steps)

pub overflow_add-result : goal.overflow_add-result
overflow_add-result c =
    let h : to_z w128 (of_z w128 c.from.result) ≡ c.args.contest.now.chase.height = omega (arith, ints, c.from.ensures, c.args.contest.now.chase.fits.height) in
    let tall : unsigned_abs (to_z w128 (of_z w128 c.from.result)) ≤ altitude_size = rw h c.args.contest.now.chase.fits.height in
    let dens : c.args.at.now.den * c.args.at.now.den * c.args.contest.now.accel ≤ GREATEST_CLOSING * GREATEST_CLOSING * GREATEST_LIMIT = mul-le-mul (mul-le-mul c.args.at.now.within.den c.args.at.now.within.den) c.args.contest.now.fits.accel in
    let t = c.times-height.ensures.size altitude_size (GREATEST_CLOSING * GREATEST_CLOSING * GREATEST_LIMIT) tall dens in
    omega (arith, ints, t, c.climb_at.ensures.size)

pub returns-clause-value : goal.returns-clause-value
returns-clause-value c =
    let h : to_z w128 (of_z w128 c.from.result) ≡ c.args.contest.now.chase.height = omega (arith, ints, c.from.ensures, c.args.contest.now.chase.fits.height) in
    let tall : unsigned_abs (to_z w128 (of_z w128 c.from.result)) ≤ altitude_size = rw h c.args.contest.now.chase.fits.height in
    let dens : c.args.at.now.den * c.args.at.now.den * c.args.contest.now.accel ≤ GREATEST_CLOSING * GREATEST_CLOSING * GREATEST_LIMIT = mul-le-mul (mul-le-mul c.args.at.now.within.den c.args.at.now.within.den) c.args.contest.now.fits.accel in
    let t = c.times-height.ensures.size altitude_size (GREATEST_CLOSING * GREATEST_CLOSING * GREATEST_LIMIT) tall dens in
    let e : to_z w128 (of_z w128 (to_z w128 (of_z w128 c.times-height.result) +ℤ to_z w128 (of_z w128 c.climb_at.result))) ≡ c.times-height.result +ℤ c.climb_at.result = omega (arith, ints, t, c.climb_at.ensures.size) in
    let r : to_z w64 (of_z w64 c.args.contest.now.chase.rate) ≡ c.args.contest.now.chase.rate = omega (arith, ints, c.args.contest.now.chase.fits.rate) in
    let g : to_z w64 (of_z w64 c.args.contest.now.goal) ≡ c.args.contest.now.goal = omega (arith, ints, c.args.contest.now.fits.goal) in
    let z : 0 * c.args.at.now.den ≡ 0 = omega arith in
    let one = rw h at c.times-height.ensures.value in
    let two = rw (r, g, z) at c.climb_at.ensures.value in
    e ∙ ap₂ (λ (i j : ℤ). i +ℤ j) one (two ∙ held-none (c.args.contest.now.chase.rate *ℤ pos c.args.at.now.den) (c.args.contest.now.goal *ℤ pos c.args.at.now.den) c.args.contest.now.accel c.args.at.now.num)

pub returns-clause-size : goal.returns-clause-size
returns-clause-size c =
    let h : to_z w128 (of_z w128 c.from.result) ≡ c.args.contest.now.chase.height = omega (arith, ints, c.from.ensures, c.args.contest.now.chase.fits.height) in
    let tall : unsigned_abs (to_z w128 (of_z w128 c.from.result)) ≤ altitude_size = rw h c.args.contest.now.chase.fits.height in
    let dens : c.args.at.now.den * c.args.at.now.den * c.args.contest.now.accel ≤ GREATEST_CLOSING * GREATEST_CLOSING * GREATEST_LIMIT = mul-le-mul (mul-le-mul c.args.at.now.within.den c.args.at.now.within.den) c.args.contest.now.fits.accel in
    let t = c.times-height.ensures.size altitude_size (GREATEST_CLOSING * GREATEST_CLOSING * GREATEST_LIMIT) tall dens in
    let e : to_z w128 (of_z w128 (to_z w128 (of_z w128 c.times-height.result) +ℤ to_z w128 (of_z w128 c.climb_at.result))) ≡ c.times-height.result +ℤ c.climb_at.result = omega (arith, ints, t, c.climb_at.ensures.size) in
    rw e (omega (arith, ints, t, c.climb_at.ensures.size))
