use Rattle.std.proofs.Common.{◌≡◌, ◌*◌, ◌^◌, ◌≤◌, ℤ, pos, unsigned_abs, ◌*ℤ◌, to_z, of_z, arith}
use Rattle.std.specs.Int.{w128}
use Rattle.std.proofs.lemmas.Grind.{common_steps}
use Rattle.std.proofs.lemmas.Int.{ints}
use Rattle.acas_units.specs.declared.limits.TheConstants.{GREATEST_CLOSING, GREATEST_LIMIT}
use Rattle.acas_region_curves.proofs.Products.{small}
use Rattle.acas_race.proofs.number.times.Goals as goal

fits : (z : ℤ) → unsigned_abs z ≤ 10 ^ 37 → to_z w128 (of_z w128 z) ≡ z
fits z h = omega (arith, ints)

pub overflow_mul-result : goal.overflow_mul-result
overflow_mul-result c = grind (arith, common_steps)

pub returns-clause-value : goal.returns-clause-value
returns-clause-value c = grind (arith, common_steps)

pub returns-clause-size : goal.returns-clause-size
returns-clause-size c = λ m n h k.
    let a : to_z w128 (of_z w128 c.args.number) ≡ c.args.number = omega (arith, ints, c.requires.number) in
    let b : to_z w128 (of_z w128 c.from.result) ≡ pos c.args.by = omega (arith, ints, c.from.ensures, c.requires.by) in
    let s = small c.args.number c.args.by (10 ^ 25) (GREATEST_CLOSING * GREATEST_CLOSING * GREATEST_LIMIT) c.requires.number c.requires.by in
    rw (a, b, fits (c.args.number *ℤ pos c.args.by) (omega (arith, s))) (small c.args.number c.args.by m n h k)
