use Rattle.std.proofs.Common.{◌≡◌, ◌∙◌, ap₂, ◌*◌, ◌^◌, ℤ, ◌-ℤ◌, to_z, of_z, arith}
use Rattle.std.specs.Int.{w64, w128}
use Rattle.std.proofs.lemmas.Int.{ints}
use Rattle.acas_units.specs.declared.limits.TheConstants.{GREATEST_LIMIT}
use Rattle.acas_race.proofs.number.number.Goals as goal

pub overflow_sub-result : goal.overflow_sub-result
overflow_sub-result c =
    let a : to_z w128 (of_z w128 c.climb_at-climb.result) ≡ c.climb_at-climb.result = omega (arith, ints, c.climb_at-climb.ensures.size) in
    let b : to_z w128 (of_z w128 c.intruder_at.result) ≡ c.intruder_at.result = omega (arith, ints, c.intruder_at.ensures.size) in
    let o = c.times.ensures.size (10 ^ 20) GREATEST_LIMIT (rw a c.climb_at-climb.ensures.size) c.args.contest.now.fits.accel in
    let i = c.times-2.ensures.size (2 * 10 ^ 20) GREATEST_LIMIT (rw b c.intruder_at.ensures.size) c.args.contest.now.chase.fits.pull in
    omega (arith, ints, o, i)

pub returns-clause-value : goal.returns-clause-value
returns-clause-value c =
    let a : to_z w128 (of_z w128 c.climb_at-climb.result) ≡ c.climb_at-climb.result = omega (arith, ints, c.climb_at-climb.ensures.size) in
    let b : to_z w128 (of_z w128 c.intruder_at.result) ≡ c.intruder_at.result = omega (arith, ints, c.intruder_at.ensures.size) in
    let o = c.times.ensures.size (10 ^ 20) GREATEST_LIMIT (rw a c.climb_at-climb.ensures.size) c.args.contest.now.fits.accel in
    let i = c.times-2.ensures.size (2 * 10 ^ 20) GREATEST_LIMIT (rw b c.intruder_at.ensures.size) c.args.contest.now.chase.fits.pull in
    let e : to_z w128 (of_z w128 (to_z w128 (of_z w128 c.times.result) -ℤ to_z w128 (of_z w128 c.times-2.result))) ≡ c.times.result -ℤ c.times-2.result = omega (arith, ints, o, i) in
    let v : to_z w64 (of_z w64 c.args.contest.now.chase.start) ≡ c.args.contest.now.chase.start = omega (arith, ints, c.args.contest.now.chase.fits.start) in
    let k : to_z w64 (of_z w64 c.args.contest.now.chase.aim) ≡ c.args.contest.now.chase.aim = omega (arith, ints, c.args.contest.now.chase.fits.aim) in
    let climb = rw (v, k) at c.climb_at-climb.ensures.value in
    let one = rw (a, climb) at c.times.ensures.value in
    let two = rw (b, c.intruder_at.ensures.value) at c.times-2.ensures.value in
    e ∙ ap₂ (λ (i j : ℤ). i -ℤ j) one two

pub returns-clause-size : goal.returns-clause-size
returns-clause-size c =
    let a : to_z w128 (of_z w128 c.climb_at-climb.result) ≡ c.climb_at-climb.result = omega (arith, ints, c.climb_at-climb.ensures.size) in
    let b : to_z w128 (of_z w128 c.intruder_at.result) ≡ c.intruder_at.result = omega (arith, ints, c.intruder_at.ensures.size) in
    let o = c.times.ensures.size (10 ^ 20) GREATEST_LIMIT (rw a c.climb_at-climb.ensures.size) c.args.contest.now.fits.accel in
    let i = c.times-2.ensures.size (2 * 10 ^ 20) GREATEST_LIMIT (rw b c.intruder_at.ensures.size) c.args.contest.now.chase.fits.pull in
    let e : to_z w128 (of_z w128 (to_z w128 (of_z w128 c.times.result) -ℤ to_z w128 (of_z w128 c.times-2.result))) ≡ c.times.result -ℤ c.times-2.result = omega (arith, ints, o, i) in
    rw e (omega (arith, ints, o, i))
