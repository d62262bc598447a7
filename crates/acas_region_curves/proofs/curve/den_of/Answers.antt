use Rattle.std.proofs.Common.{◌*◌, ◌≤◌, arith, mul-le-mul}
use Rattle.std.proofs.lemmas.Int.{ints}
use Rattle.acas_region_curves.proofs.curve.den_of.Goals as goal
use Rattle.acas_units.specs.declared.limits.TheConstants.{GREATEST_LIMIT}
use Rattle.acas_areas.specs.declared.fineness.TheConstants.{RATE_PARTS, PULL_PARTS, TIME_PARTS, HOLD_PARTS}

pub overflow_mul-result-3 : goal.overflow_mul-result-3
overflow_mul-result-3 c =
    let a : c.from-accelerations.result ≤ RATE_PARTS * RATE_PARTS * PULL_PARTS = omega (arith, ints, c.from-accelerations.ensures, mul-le-mul c.requires.rates c.requires.pull_den) in
    let t : c.from-times.result ≤ TIME_PARTS * HOLD_PARTS = omega (arith, ints, c.from-times.ensures, c.requires.times) in
    let p : c.from.result ≤ GREATEST_LIMIT * PULL_PARTS * (RATE_PARTS * RATE_PARTS) = omega (arith, ints, c.from.ensures, c.requires.pull) in
    let all : c.from-accelerations.result * c.from-times.result * c.from-times.result * c.from.result ≤ (RATE_PARTS * RATE_PARTS * PULL_PARTS) * (TIME_PARTS * HOLD_PARTS) * (TIME_PARTS * HOLD_PARTS) * (GREATEST_LIMIT * PULL_PARTS * (RATE_PARTS * RATE_PARTS)) = mul-le-mul (mul-le-mul (mul-le-mul a t) t) p in
    omega (arith, ints, all)
