use Rattle.std.proofs.Common.{◌≡◌, ℕ, ◌≤◌, ℤ, pos, ◌-ℤ◌, ◌*ℤ◌, unsigned_abs, to_z, of_z, arith}
use Rattle.std.proofs.lemmas.Grind.{common_steps}
use Rattle.std.specs.Int.{w64}
use Rattle.std.proofs.lemmas.Int.{ints}
use Rattle.acas_frac.proofs.Bounds.{product_size}
use Rattle.acas_witness_plans.proofs.Casts.{whole64}
use Rattle.acas_witness_response.proofs.response.way_of.Goals as goal

product : (a : ℤ) (n : ℕ) → unsigned_abs a ≤ 80000 → n ≤ 8 → (to_z w64 (of_z w64 (to_z w64 (of_z w64 a) *ℤ to_z w64 n)) ≡ a *ℤ pos n) × (unsigned_abs (a *ℤ pos n) ≤ 640000)
product a n h k =
    let x : to_z w64 (of_z w64 a) ≡ a = omega (arith, ints) in
    let y : to_z w64 n ≡ pos n = omega (arith, ints) in
    let s = product_size a (pos n) 80000 8 h k in
    (rw (x, y) (whole64 (a *ℤ pos n) (omega (arith, s))), omega (arith, s))

pub overflow_sub-aim : goal.overflow_sub-aim
overflow_sub-aim c =
    let a = product c.args.aim c.args.rate_den c.requires.aim c.requires.rate_den in
    let b = product c.args.rate c.args.aim_den c.requires.rate c.requires.aim_den in
    rw (a.0, b.0) (omega (arith, ints, a.1, b.1))

pub returns-clause-value : goal.returns-clause-value
returns-clause-value c =
    let a = product c.args.aim c.args.rate_den c.requires.aim c.requires.rate_den in
    let b = product c.args.rate c.args.aim_den c.requires.rate c.requires.aim_den in
    let d : to_z w64 (of_z w64 ((c.args.aim *ℤ pos c.args.rate_den) -ℤ (c.args.rate *ℤ pos c.args.aim_den))) ≡ (c.args.aim *ℤ pos c.args.rate_den) -ℤ (c.args.rate *ℤ pos c.args.aim_den) = omega (arith, ints, a.1, b.1) in
    rw (a.0, b.0, d) at c.unsigned_abs.ensures.value

pub returns-clause-size : goal.returns-clause-size
returns-clause-size c =
    let a = product c.args.aim c.args.rate_den c.requires.aim c.requires.rate_den in
    let b = product c.args.rate c.args.aim_den c.requires.rate c.requires.aim_den in
    let d : to_z w64 (of_z w64 ((c.args.aim *ℤ pos c.args.rate_den) -ℤ (c.args.rate *ℤ pos c.args.aim_den))) ≡ (c.args.aim *ℤ pos c.args.rate_den) -ℤ (c.args.rate *ℤ pos c.args.aim_den) = omega (arith, ints, a.1, b.1) in
    let e = rw (a.0, b.0, d) at c.unsigned_abs.ensures.value in
    rw e (omega (arith, ints, a.1, b.1))

pub overflow_mul-rate : goal.overflow_mul-rate
overflow_mul-rate c = grind (arith, common_steps)

pub overflow_mul-aim : goal.overflow_mul-aim
overflow_mul-aim c = grind (arith, common_steps)
