-- The value of a curve, over its long denominator, reduces to a small fraction.
use Rattle.std.proofs.Common.{◌≡◌, ℕ, ◌+◌, ◌-◌, ◌*◌, ◌^◌, ◌<◌, ◌≤◌, refl, ap, ◌∙◌, arith, Bool, true, false, [], ◌∷◌, ℤ, pos, ◌*ℤ◌, unsigned_abs, mul-le-mul, mul-le-mul_left, mul-pos}
use Rattle.std.proofs.lemmas.Int.{ints, unsigned_abs-mul}
use Rattle.acas_frac.proofs.IntRing.{at, num, ◌⊕◌, ◌⊖◌, ◌⊗◌, ring}
use Rattle.acas_flight.proofs.Curves.{steady}
use Rattle.acas_frac.specs.Fraction.{ReducesWithinBounds}
use Rattle.acas_flight.specs.Values.{all_lost, less_or_more}
use Rattle.acas_frac.proofs.Lowest.{ReducesWithinBounds-over}
use Rattle.acas_units.specs.declared.limits.TheConstants.{GREATEST_RATE, WINDOW_SECONDS}
use Rattle.acas_areas.specs.declared.fineness.TheConstants.{RATE_PARTS, TIME_PARTS}
use Rattle.acas_areas.specs.Sizes.{rate_size, way_size, gain_size}

factor : (r : Bool) (s : ℤ) (l c : ℕ) → less_or_more r (s *ℤ pos c) (l * c) ≡ less_or_more r s l *ℤ pos c
factor true s l c = ring (s ∷ pos l ∷ pos c ∷ []) ((at 0 ⊗ at 2) ⊖ (at 1 ⊗ at 2)) ((at 0 ⊖ at 1) ⊗ at 2) refl
factor false s l c = ring (s ∷ pos l ∷ pos c ∷ []) ((at 0 ⊗ at 2) ⊕ (at 1 ⊗ at 2)) ((at 0 ⊕ at 1) ⊗ at 2) refl

pub size_with : (r : Bool) (s : ℤ) (l : ℕ) → unsigned_abs (less_or_more r s l) ≤ unsigned_abs s + l
size_with true s l = omega (arith, ints)
size_with false s l = omega (arith, ints)

reduces : (a : ℤ) (c m den : ℕ) → 0 < c → 0 < m → m * c ≡ den → unsigned_abs a ≤ 10 ^ 24 → m ≤ 10 ^ 13 → ReducesWithinBounds (unsigned_abs (a *ℤ pos c)) den
reduces a c m den p q e h k = ReducesWithinBounds-over (unsigned_abs (a *ℤ pos c)) den (unsigned_abs a) m (rw (← e) (mul-pos q p)) q (rw (unsigned_abs-mul a (pos c), ← e) (omega arith)) h k

by_factor : (r : Bool) (s : ℤ) (l c m den : ℕ) → 0 < c → 0 < m → m * c ≡ den → unsigned_abs s + l ≤ 10 ^ 24 → m ≤ 10 ^ 13 → ReducesWithinBounds (unsigned_abs (less_or_more r (s *ℤ pos c) (l * c))) den
by_factor r s l c m den p q e h k = rw (factor r s l c) (reduces (less_or_more r s l) c m den p q e (omega (arith, size_with r s l)) k)

size_product : (k : ℤ) (b : ℕ) → unsigned_abs ((pos 2 *ℤ k) *ℤ pos b) ≡ (2 * unsigned_abs k) * b
size_product k b = unsigned_abs-mul (pos 2 *ℤ k) (pos b) ∙ ap (λ z. z * b) (unsigned_abs-mul (pos 2) k)

lost_before : (w p m s : ℕ) → p * s ≤ w → all_lost w (p * m) (p * s) ≡ ((w + w) * m + s * (w + w - p * s)) * p
lost_before w p m s h = by (w - p * s) (omega arith)
  where
    by : (c : ℕ) → w ≡ c + p * s → all_lost w (p * m) (p * s) ≡ ((w + w) * m + s * (w + w - p * s)) * p
    by c e =
        let rest : w - p * s ≡ c = omega arith in
        let both : w + w - p * s ≡ c + c + p * s = omega arith in
        rw (rest, both, e) (omega arith)

-- before the bend the pull divides out
pub early_reduces : (r : Bool) (k : ℤ) (way p held rest time m : ℕ) → p * rest ≤ way → 0 < p → 0 < m → m ≤ 10 ^ 13 →
    unsigned_abs k ≤ rate_size → way ≤ way_size → time ≤ WINDOW_SECONDS * TIME_PARTS → held ≤ time → rest ≤ time →
    ReducesWithinBounds (unsigned_abs (less_or_more r (steady k time p) (all_lost way (p * held) (p * rest)))) (m * p)
early_reduces r k way p held rest time m l some pm small hk hw ht hh hr =
    let double : 2 * unsigned_abs k ≤ way_size = omega (arith, hk) in
    let straight : (2 * unsigned_abs k) * time ≤ way_size * WINDOW_SECONDS * TIME_PARTS = mul-le-mul double ht in
    let ways : way + way ≤ 2 * way_size = omega arith in
    let holds : held ≤ WINDOW_SECONDS * TIME_PARTS = omega arith in
    let rests : rest ≤ WINDOW_SECONDS * TIME_PARTS = omega arith in
    let left : way + way - p * rest ≤ 2 * way_size = omega arith in
    let one : (way + way) * held ≤ 2 * way_size * WINDOW_SECONDS * TIME_PARTS = mul-le-mul ways holds in
    let two : rest * (way + way - p * rest) ≤ WINDOW_SECONDS * TIME_PARTS * 2 * way_size = mul-le-mul rests left in
    rw (lost_before way p held rest l)
    (by_factor r ((pos 2 *ℤ k) *ℤ pos time) ((way + way) * held + rest * (way + way - p * rest)) p m (m * p) some pm refl (omega (arith, size_product k time)) small)

lost_after : (x e kept gain : ℕ) → x * e ≤ gain → all_lost (x * e) kept gain ≡ ((x + x) * kept + x * (x * e)) * e
lost_after x e kept gain h = let rest : x * e - gain ≡ 0 = omega arith in rw rest (omega arith)

-- after it the denominator that rate and time share
pub late_reduces : (r : Bool) (k : ℤ) (x e p held rest time m : ℕ) → x * e < p * rest → 0 < e → 0 < m → m ≤ 10 ^ 13 →
    unsigned_abs k ≤ unsigned_abs GREATEST_RATE * RATE_PARTS → x ≤ 2 * (unsigned_abs GREATEST_RATE * RATE_PARTS) → x * e ≤ way_size → p * time ≤ gain_size → held ≤ time →
    ReducesWithinBounds (unsigned_abs (less_or_more r (steady (k *ℤ pos e) time p) (all_lost (x * e) (p * held) (p * rest)))) (m * e)
late_reduces r k x e p held rest time m l some pm small hk hx hw ht hh =
    let double : 2 * unsigned_abs k ≤ 2 * (unsigned_abs GREATEST_RATE * RATE_PARTS) = omega (arith, hk) in
    let straight : (2 * unsigned_abs k) * (p * time) ≤ 2 * (unsigned_abs GREATEST_RATE * RATE_PARTS) * gain_size = mul-le-mul double ht in
    let less : p * held ≤ p * time = mul-le-mul_left p hh in
    let kept : p * held ≤ gain_size = omega arith in
    let ways : x + x ≤ 4 * (unsigned_abs GREATEST_RATE * RATE_PARTS) = omega arith in
    let one : (x + x) * (p * held) ≤ 4 * (unsigned_abs GREATEST_RATE * RATE_PARTS) * gain_size = mul-le-mul ways kept in
    let two : x * (x * e) ≤ 2 * (unsigned_abs GREATEST_RATE * RATE_PARTS) * way_size = mul-le-mul hx hw in
    let turned : steady (k *ℤ pos e) time p ≡ ((pos 2 *ℤ k) *ℤ pos (p * time)) *ℤ pos e =
    ring (k ∷ pos e ∷ pos time ∷ pos p ∷ []) (((num (pos 2) ⊗ (at 0 ⊗ at 1)) ⊗ at 2) ⊗ at 3) (((num (pos 2) ⊗ at 0) ⊗ (at 3 ⊗ at 2)) ⊗ at 1) refl in
    rw (lost_after x e (p * held) (p * rest) (omega arith), turned)
    (by_factor r ((pos 2 *ℤ k) *ℤ pos (p * time)) ((x + x) * (p * held) + x * (x * e)) e m (m * e) some pm refl (omega (arith, size_product k (p * time))) small)
