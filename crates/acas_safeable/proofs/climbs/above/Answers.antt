use Rattle.std.proofs.Common.{◌≡◌, ◌∙◌, ap, ap₂, ℤ, pos, ◌-ℤ◌, ◌*ℤ◌, arith, of_z, to_z, rules}
use Rattle.std.specs.Int.{w128, w64}
use Rattle.std.proofs.lemmas.Int.{ints}
use Rattle.acas_safeable.proofs.climbs.above.Goals as goal

pub returns-clause-value : goal.returns-clause-value
returns-clause-value c =
    let climb = c.args.climb in
    let altitude : to_z w64 (of_z w64 c.args.altitude) ≡ c.args.altitude = omega (arith, ints, c.requires.altitude) in
    let rate : to_z w64 (of_z w64 c.args.rate) ≡ c.args.rate = omega (arith, ints, c.requires.rate) in
    let flown : to_z w64 (of_z w64 c.flown.result) ≡ c.flown.result = omega (arith, ints, c.flown.ensures.size) in
    let from : to_z w128 (of_z w128 c.from.result) ≡ c.scaled.result = omega (arith, ints, c.from.ensures, c.scaled.ensures.size) in
    let less : to_z w128 (of_z w128 c.args.climb.times_pull) ≡ c.args.climb.times_pull = omega (arith, ints, climb.within.size) in
    let whole : to_z w128 (of_z w128 (c.scaled.result -ℤ c.args.climb.times_pull)) ≡ c.scaled.result -ℤ c.args.climb.times_pull = omega (arith, ints, c.scaled.ensures.size, climb.within.size) in
    let there = rw (altitude, rate) at c.flown.ensures.value in
    let times = rw flown at c.scaled.ensures.value in
    ap₂ (λ (i j : ℤ). to_z w128 (of_z w128 (i -ℤ j))) from less ∙ whole
    ∙ ap (λ (z : ℤ). z -ℤ c.args.climb.times_pull) (times ∙ ap (λ (z : ℤ). z *ℤ pos c.args.climb.pull) there)

pub overflow_sub-result : goal.overflow_sub-result
overflow_sub-result c = search rules

pub returns-clause-size : goal.returns-clause-size
returns-clause-size c = search rules
