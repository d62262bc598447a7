-- Bounds of products and of curves.
use Rattle.std.proofs.Common.{◌≡◌, ℕ, ◌+◌, ◌-◌, ◌*◌, ◌^◌, ◌<◌, ◌≤◌, refl, ap, ◌∙◌, arith, ℤ, pos, ◌-ℤ◌, ◌*ℤ◌, unsigned_abs, int_le, min, to_z, of_z, mul-le-mul, mul-le-mul_left}
use Rattle.std.specs.Int.{w64}
use Rattle.std.proofs.lemmas.Int.{ints, unsigned_abs-mul}
use Rattle.acas_units.specs.declared.limits.TheConstants.{GREATEST_CLOSING, GREATEST_LIMIT}
use Rattle.acas_flight.proofs.Curves.{steady}
use Rattle.acas_flight_lemmas.proofs.Held.{held_one_form}
use Rattle.acas_frac.specs.Fraction.{ReducesWithinBounds}
use Rattle.acas_flight.specs.Curves.{held}
use Rattle.acas_flight.specs.Values.{all_lost}
use Rattle.acas_frac.proofs.Lowest.{ReducesWithinBounds-over}
use Rattle.acas_region_curves.proofs.Sizes.{size_with}
use Rattle.acas_units.specs.declared.limits.TheConstants.{GREATEST_RATE, WINDOW_SECONDS}

pub small : (a : ℤ) (n m k : ℕ) → unsigned_abs a ≤ m → n ≤ k → unsigned_abs (a *ℤ pos n) ≤ m * k
small a n m k h j = rw (unsigned_abs-mul a (pos n)) (mul-le-mul h j)

pub whole64 : (z : ℤ) → unsigned_abs z ≤ 10 ^ 18 → to_z w64 (of_z w64 z) ≡ z
whole64 z h = omega (arith, ints)

pub small_reduces : (n : ℤ) (d : ℕ) → unsigned_abs n ≤ 2 * 10 ^ 20 → 0 < d → d ≤ GREATEST_CLOSING * GREATEST_CLOSING * GREATEST_LIMIT → ReducesWithinBounds (unsigned_abs n) d
small_reduces n d h p k = ReducesWithinBounds-over (unsigned_abs n) d (unsigned_abs n) d p p refl (omega arith) (omega arith)

-- the numbers of a curve from whole rates, over a closing speed at most
pub held_small : (v k : ℤ) (b g t : ℕ) → unsigned_abs v ≤ unsigned_abs GREATEST_RATE * GREATEST_CLOSING → unsigned_abs k ≤ unsigned_abs GREATEST_RATE * GREATEST_CLOSING → b * t ≤ GREATEST_LIMIT * (WINDOW_SECONDS * GREATEST_CLOSING) → unsigned_abs (held v k b g t) ≤ 10 ^ 20
held_small v k b g t hv hk ht =
    let double : 2 * unsigned_abs k ≤ (2 * (unsigned_abs GREATEST_RATE * GREATEST_CLOSING)) = omega arith in
    let straight : (2 * unsigned_abs k) * (b * t) ≤ (2 * (unsigned_abs GREATEST_RATE * GREATEST_CLOSING)) * GREATEST_LIMIT * (WINDOW_SECONDS * GREATEST_CLOSING) = mul-le-mul double ht in
    let kept : b * min t g ≤ b * t = mul-le-mul_left b (omega arith) in
    let kept' : b * min t g ≤ GREATEST_LIMIT * (WINDOW_SECONDS * GREATEST_CLOSING) = omega arith in
    let way : unsigned_abs (k -ℤ v) ≤ (2 * (unsigned_abs GREATEST_RATE * GREATEST_CLOSING)) = omega (arith, ints) in
    let ways : unsigned_abs (k -ℤ v) + unsigned_abs (k -ℤ v) ≤ 4 * (unsigned_abs GREATEST_RATE * GREATEST_CLOSING) = omega arith in
    let one : (unsigned_abs (k -ℤ v) + unsigned_abs (k -ℤ v)) * (b * min t g) ≤ 4 * (unsigned_abs GREATEST_RATE * GREATEST_CLOSING) * GREATEST_LIMIT * (WINDOW_SECONDS * GREATEST_CLOSING) = mul-le-mul ways kept' in
    let two : unsigned_abs (k -ℤ v) * unsigned_abs (k -ℤ v) ≤ (2 * (unsigned_abs GREATEST_RATE * GREATEST_CLOSING)) * (2 * (unsigned_abs GREATEST_RATE * GREATEST_CLOSING)) = mul-le-mul way way in
    let size : unsigned_abs (steady k t b) ≡ ((2 * unsigned_abs k) * t) * b = unsigned_abs-mul ((pos 2 *ℤ k) *ℤ pos t) (pos b) ∙ ap (λ z. z * b) (unsigned_abs-mul (pos 2 *ℤ k) (pos t) ∙ ap (λ z. z * t) (unsigned_abs-mul (pos 2) k)) in
    let all = size_with (int_le v k) (steady k t b) (all_lost (unsigned_abs (k -ℤ v)) (b * min t g) (b * (t - g))) in
    rw (held_one_form v k b g t) (omega (arith, all, size, straight, one, two))
