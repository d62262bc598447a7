use Rattle.std.proofs.Common.{◌^◌, ℕ, ◌≡◌, ◌∙◌, ap₂, refl, arith, [], ◌∷◌, ◌*◌, ◌≤◌, ℤ, pos, ◌*ℤ◌, unsigned_abs, to_z, of_z, mul-le-mul}
use Rattle.std.specs.Int.{w128}
use Rattle.std.proofs.lemmas.Grind.{common_steps}
use Rattle.std.proofs.lemmas.Int.{ints, unsigned_abs-mul}
use Rattle.acas_frac.proofs.IntRing.{at, num, ◌⊗◌, ring}
use Rattle.acas_region_curves.proofs.curve.straight.Goals as goal
use Rattle.acas_areas.specs.Sizes.{rate_size, way_size, gain_size}

bound : (a : ℤ) (n : ℕ) → unsigned_abs a ≤ rate_size → n ≤ gain_size → unsigned_abs ((pos 2 *ℤ a) *ℤ pos n) ≤ 10 ^ 25
bound a n h k =
    let double : 2 * unsigned_abs a ≤ way_size = omega arith in
    let p : (2 * unsigned_abs a) * n ≤ way_size * gain_size = mul-le-mul double k in
    rw (unsigned_abs-mul (pos 2 *ℤ a) (pos n), unsigned_abs-mul (pos 2) a) (omega arith)

fits : (z : ℤ) → unsigned_abs z ≤ 10 ^ 25 → to_z w128 (of_z w128 z) ≡ z
fits z h = omega (arith, ints)

same : (a : ℤ) (p t : ℕ) → (pos 2 *ℤ a) *ℤ pos (p * t) ≡ ((pos 2 *ℤ a) *ℤ pos t) *ℤ pos p
same a p t = ring (a ∷ pos p ∷ pos t ∷ []) ((num (pos 2) ⊗ at 0) ⊗ (at 1 ⊗ at 2)) (((num (pos 2) ⊗ at 0) ⊗ at 2) ⊗ at 1) refl

pub overflow_mul-result : goal.overflow_mul-result
overflow_mul-result c = grind (arith, common_steps)

pub returns-clause-value : goal.returns-clause-value
returns-clause-value c =
    let a : to_z w128 (of_z w128 c.from.result) ≡ pos 2 *ℤ c.args.aim = omega (arith, ints, c.from.ensures, c.requires.aim) in
    let b : to_z w128 (of_z w128 c.from-2.result) ≡ pos (c.args.pull * c.args.time) = omega (arith, ints, c.from-2.ensures, c.requires.flown) in
    let e = ap₂ (λ (m n : ℤ). to_z w128 (of_z w128 (m *ℤ n))) a b in
    e ∙ fits ((pos 2 *ℤ c.args.aim) *ℤ pos (c.args.pull * c.args.time)) (bound c.args.aim (c.args.pull * c.args.time) c.requires.aim c.requires.flown) ∙ same c.args.aim c.args.pull c.args.time

pub returns-clause-size : goal.returns-clause-size
returns-clause-size c = grind (arith, common_steps)
