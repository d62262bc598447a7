use Rattle.std.proofs.Common.{◌≡◌, ◌≤◌, pos, ◌*ℤ◌, unsigned_abs, to_z, of_z, arith}
use Rattle.std.specs.Int.{w64}
use Rattle.std.proofs.lemmas.Grind.{common_steps}
use Rattle.std.proofs.lemmas.Int.{ints}
use Rattle.acas_frac.proofs.Bounds.{product_size}
use Rattle.acas_witness_plans.proofs.Casts.{whole64}
use Rattle.acas_witness_plans.proofs.flown.flown.Goals as goal

pub overflow_mul-result-2 : goal.overflow_mul-result-2
overflow_mul-result-2 c = grind (arith, common_steps)

pub returns-clause-value : goal.returns-clause-value
returns-clause-value c = grind (arith, common_steps)

pub returns-clause-size : goal.returns-clause-size
returns-clause-size c =
    let r : to_z w64 (of_z w64 c.args.rate) ≡ c.args.rate = omega (arith, ints, c.requires.rate) in
    let two : to_z w64 (of_z w64 (pos 2 *ℤ c.args.rate)) ≡ pos 2 *ℤ c.args.rate = omega (arith, ints, c.requires.rate) in
    let t : to_z w64 c.args.time ≡ pos c.args.time = omega (arith, ints, c.requires.time) in
    let double : unsigned_abs (pos 2 *ℤ c.args.rate) ≤ 160000 = omega (arith, ints, c.requires.rate) in
    let s = product_size (pos 2 *ℤ c.args.rate) (pos c.args.time) 160000 768000000 double c.requires.time in
    rw (r, two, t, whole64 ((pos 2 *ℤ c.args.rate) *ℤ pos c.args.time) (omega (arith, s))) (omega (arith, s))
