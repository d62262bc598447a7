use Rattle.std.proofs.Common.{◌^◌, ℕ, ◌≡◌, ◌∙◌, ap₂, arith, ◌*◌, ◌≤◌, ℤ, pos, ◌*ℤ◌, unsigned_abs, to_z, of_z, mul-le-mul}
use Rattle.std.specs.Int.{w64}
use Rattle.std.proofs.lemmas.Int.{ints, unsigned_abs-mul}
use Rattle.acas_region_curves.proofs.curve.start_of.Goals as goal
use Rattle.acas_region_curves.proofs.Products.{whole64}
use Rattle.acas_units.specs.declared.limits.TheConstants.{GREATEST_RATE}
use Rattle.acas_areas.specs.declared.fineness.TheConstants.{RATE_PARTS, PULL_PARTS, TIME_PARTS, HOLD_PARTS}

bound : (a : ℤ) (n : ℕ) → unsigned_abs a ≤ unsigned_abs GREATEST_RATE * RATE_PARTS → n ≤ RATE_PARTS * (PULL_PARTS * (TIME_PARTS * HOLD_PARTS)) → unsigned_abs (a *ℤ pos n) ≤ 10 ^ 18
bound a n h k = rw (unsigned_abs-mul a (pos n)) (omega (arith, mul-le-mul h k))

pub returns-clause-value : goal.returns-clause-value
returns-clause-value c =
    let m : c.args.other * c.args.shared ≤ RATE_PARTS * (PULL_PARTS * (TIME_PARTS * HOLD_PARTS)) = omega (arith, mul-le-mul c.requires.other c.requires.shared) in
    let a : to_z w64 (of_z w64 c.args.rate) ≡ c.args.rate = omega (arith, ints, c.requires.rate) in
    let b : to_z w64 (c.args.other * c.args.shared) ≡ pos (c.args.other * c.args.shared) = omega (arith, ints, m) in
    ap₂ (λ (i j : ℤ). to_z w64 (of_z w64 (i *ℤ j))) a b ∙ whole64 (c.args.rate *ℤ pos (c.args.other * c.args.shared)) (bound c.args.rate (c.args.other * c.args.shared) c.requires.rate (omega (arith, m)))

pub returns-clause-size : goal.returns-clause-size
returns-clause-size c =
    let m : c.args.other * c.args.shared ≤ RATE_PARTS * (PULL_PARTS * (TIME_PARTS * HOLD_PARTS)) = omega (arith, mul-le-mul c.requires.other c.requires.shared) in
    let a : to_z w64 (of_z w64 c.args.rate) ≡ c.args.rate = omega (arith, ints, c.requires.rate) in
    let b : to_z w64 (c.args.other * c.args.shared) ≡ pos (c.args.other * c.args.shared) = omega (arith, ints, m) in
    let s : unsigned_abs (c.args.rate *ℤ pos (c.args.other * c.args.shared)) ≤ 10 ^ 18 = bound c.args.rate (c.args.other * c.args.shared) c.requires.rate (omega (arith, m)) in
    rw (a, b, whole64 (c.args.rate *ℤ pos (c.args.other * c.args.shared)) s) (omega (arith, s))
