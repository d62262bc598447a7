-- The points of the lattices are fractions over small denominators.
use Rattle.std.proofs.Common.{◌≡◌, ℕ, ◌+◌, ◌-◌, ◌*◌, ◌<◌, ◌≤◌, refl, ap, ◌∙◌, sym, arith, [], ◌∷◌, ℤ, pos, negsuc, ◌*ℤ◌, ◌≤ℤ◌, ◌<ℤ◌, unsigned_abs, mul-le-mul_right}
use Rattle.std.proofs.lemmas.Int.{ints}
use Rattle.acas_frac.proofs.SignedProducts.{le-from_mul_ℤ}
use Rattle.acas_frac.proofs.IntRing.{at, num, ◌⊗◌, ring, mul_swapped_ℤ}
use Rattle.acas_flight_lemmas.proofs.Rising.{scaled_le}
use Rattle.acas_frac.specs.Fraction.{Fraction, IsFrac, ReducesWithinBounds}
use Rattle.acas_flight.specs.Values.{IsOver}
use Rattle.acas_frac.proofs.Lowest.{den_at_most, ReducesWithinBounds-over}
use Rattle.acas_areas.specs.Limits.{IsRate, IsPull, IsHold, IsTime, IsEnd}
use Rattle.acas_areas.specs.Passes.{toward}
use native.Mathlib.Nat.{lt_of_mul-lt-mul_left}
use lib.IntN.{*ℤ_comm}

pub ratio_reduces : (n d : ℤ) → unsigned_abs n ≤ 1000000000000000000 → pos 0 <ℤ d → d ≤ℤ pos 10000000000 → ReducesWithinBounds (unsigned_abs n) (unsigned_abs d)
ratio_reduces n d h p k = ReducesWithinBounds-over (unsigned_abs n) (unsigned_abs d) (unsigned_abs n) (unsigned_abs d) (omega (arith, ints)) (omega (arith, ints)) refl (omega arith) (omega (arith, ints))

-- the value n/d is at least i and at most j
pub at_least : (f : Fraction) (n i : ℤ) (d : ℕ) → 0 < d → f.num *ℤ pos d ≡ n *ℤ pos f.den → (i *ℤ pos d) ≤ℤ n → (i *ℤ pos f.den) ≤ℤ f.num
at_least f n i d p e h = le-from_mul_ℤ d (i *ℤ pos f.den) f.num p (rw (*ℤ_comm (pos d) f.num, e, ← mul_swapped_ℤ i (pos d) (pos f.den)) (scaled_le (i *ℤ pos d) n f.den h))

pub at_most : (f : Fraction) (n j : ℤ) (d : ℕ) → 0 < d → f.num *ℤ pos d ≡ n *ℤ pos f.den → n ≤ℤ (j *ℤ pos d) → f.num ≤ℤ (j *ℤ pos f.den)
at_most f n j d p e h = le-from_mul_ℤ d f.num (j *ℤ pos f.den) p (rw (*ℤ_comm (pos d) f.num, e, ← mul_swapped_ℤ j (pos d) (pos f.den)) (scaled_le n (j *ℤ pos d) f.den h))

pub rate_of : (f : Fraction) (n : ℤ) → IsFrac f → f.num *ℤ pos 8 ≡ n *ℤ pos f.den → unsigned_abs n ≤ 80000 → IsRate f
rate_of f n l e h = record {
  some = l.some;
  den = den_at_most f n 8 l (omega arith) e;
  size = (let low = at_least f n (negsuc 9999) 8 (omega arith) e (omega (arith, ints)) in let high = at_most f n (pos 10000) 8 (omega arith) e (omega (arith, ints)) in omega (arith, ints));
}

pub pull_of : (f : Fraction) (n : ℕ) → IsFrac f → f.num *ℤ pos 2048 ≡ pos n *ℤ pos f.den → 2048 ≤ n → n ≤ 4096000 → IsPull f
pull_of f n l e h k = record {
  some = l.some;
  den = den_at_most f (pos n) 2048 l (omega arith) e;
  least = (let low = at_least f (pos n) (pos 1) 2048 (omega arith) e (omega (arith, ints)) in omega (arith, ints));
  greatest = (let high = at_most f (pos n) (pos 2000) 2048 (omega arith) e (omega (arith, ints)) in omega (arith, ints));
}

pub hold_of : (f : Fraction) (n : ℕ) → IsFrac f → f.num *ℤ pos 256 ≡ pos n *ℤ pos f.den → n ≤ 2560 → IsHold f
hold_of f n l e k = record {
  some = l.some;
  den = den_at_most f (pos n) 256 l (omega arith) e;
  least = (let low = at_least f (pos n) (pos 0) 256 (omega arith) e (omega (arith, ints)) in omega (arith, ints));
  greatest = (let high = at_most f (pos n) (pos 10) 256 (omega arith) e (omega (arith, ints)) in omega (arith, ints));
}

pub time_of : (f : Fraction) (n d : ℕ) → IsFrac f → f.num *ℤ pos (256 * d) ≡ pos n *ℤ pos f.den → 0 < d → d ≤ 5000 → n ≤ 600 * (256 * d) → IsTime f
time_of f n d l e p h k = record {
  some = l.some;
  den = (let m = den_at_most f (pos n) (256 * d) l (omega arith) e in omega arith);
  least = (let low = at_least f (pos n) (pos 0) (256 * d) (omega arith) e (omega (arith, ints)) in omega (arith, ints));
  greatest = (let high = at_most f (pos n) (pos 600) (256 * d) (omega arith) e (omega (arith, ints)) in omega (arith, ints));
}

-- ---- the times of the lattice

-- the way to a time is cut short of it
pub later_most : (a b c d n : ℕ) → 256 * a * d + n * (b * d) < 256 * c * b → c ≤ 600 * d → 256 * a + n * b ≤ 600 * (256 * b)
later_most a b c d n h k =
    let m : c * b ≤ (600 * d) * b = mul-le-mul_right b k in
    let l : d * (256 * a + n * b) < d * (600 * (256 * b)) = omega arith in
    let r = lt_of_mul-lt-mul_left d l in omega arith

left : (k d m : ℕ) → pos ((8 * d) * k) *ℤ pos m ≡ pos (8 * d) *ℤ (pos k *ℤ pos m)
left k d m = ring (pos k ∷ pos d ∷ pos m ∷ []) (((num (pos 8) ⊗ at 1) ⊗ at 0) ⊗ at 2) ((num (pos 8) ⊗ at 1) ⊗ (at 0 ⊗ at 2)) refl

right : (x : ℤ) (b d : ℕ) → pos (8 * d) *ℤ (x *ℤ pos (256 * b)) ≡ x *ℤ pos (2048 * (b * d))
right x b d = ring (x ∷ pos b ∷ pos d ∷ []) ((num (pos 8) ⊗ at 2) ⊗ (at 0 ⊗ (num (pos 256) ⊗ at 1))) (at 0 ⊗ (num (pos 2048) ⊗ (at 1 ⊗ at 2))) refl

pub over_later : (f : Fraction) (a b c d n : ℕ) → f.num *ℤ pos (256 * b) ≡ pos (256 * a + n * b) *ℤ pos f.den → 256 * a * d + n * (b * d) < 256 * c * b →
    IsOver (2048 * (b * d)) (pos (toward (a * (2048 * d)) (c * (2048 * b)) (n * (8 * (b * d))))) f
over_later f a b c d n e h =
    let p : toward (a * (2048 * d)) (c * (2048 * b)) (n * (8 * (b * d))) ≡ (8 * d) * (256 * a + n * b) = place (a * (2048 * d)) (c * (2048 * b)) (n * (8 * (b * d))) ((8 * d) * (256 * a + n * b)) (omega arith) (omega arith) in
    rw p (left (256 * a + n * b) d f.den ∙ ap (λ z. pos (8 * d) *ℤ z) (sym e) ∙ right f.num b d)
  where
    place : (x y m z : ℕ) → x + m < y → z ≡ x + m → toward x y m ≡ z
    place x y m z h e = omega arith

pub sooner_room : (a b c d n : ℕ) → 0 < d → 256 * c * b + n * (b * d) < 256 * a * d → n * b ≤ 256 * a
sooner_room a b c d n p h =
    let l : d * (n * b) < d * (256 * a) = omega arith in
    let r = lt_of_mul-lt-mul_left d l in omega arith

pub over_sooner : (f : Fraction) (a b c d n : ℕ) → 0 < d → f.num *ℤ pos (256 * b) ≡ pos (256 * a - n * b) *ℤ pos f.den → 256 * c * b + n * (b * d) < 256 * a * d →
    IsOver (2048 * (b * d)) (pos (toward (a * (2048 * d)) (c * (2048 * b)) (n * (8 * (b * d))))) f
over_sooner f a b c d n s e h = by (256 * a - n * b) (let r = sooner_room a b c d n s h in omega arith) e
  where
    place : (x y m z : ℕ) → y + m < x → z + m ≡ x → toward x y m ≡ z
    place x y m z h e = omega arith

    by : (z : ℕ) → 256 * a ≡ z + n * b → f.num *ℤ pos (256 * b) ≡ pos z *ℤ pos f.den → IsOver (2048 * (b * d)) (pos (toward (a * (2048 * d)) (c * (2048 * b)) (n * (8 * (b * d))))) f
    by z g e =
        let scaled : d * (256 * a) ≡ d * (z + n * b) = ap (λ i. d * i) g in
        let p : toward (a * (2048 * d)) (c * (2048 * b)) (n * (8 * (b * d))) ≡ (8 * d) * z = place (a * (2048 * d)) (c * (2048 * b)) (n * (8 * (b * d))) ((8 * d) * z) (omega arith) (omega arith) in
        rw p (left z d f.den ∙ ap (λ z. pos (8 * d) *ℤ z) (sym e) ∙ right f.num b d)

-- at the other end
pub over_end : (f : Fraction) (a b c d n : ℕ) → f.num ≡ pos c → f.den ≡ d → toward (a * (2048 * d)) (c * (2048 * b)) (n * (8 * (b * d))) ≡ c * (2048 * b) →
    IsOver (2048 * (b * d)) (pos (toward (a * (2048 * d)) (c * (2048 * b)) (n * (8 * (b * d))))) f
over_end f a b c d n e g p = rw (p, e, g) (ring (pos b ∷ pos c ∷ pos d ∷ []) ((at 1 ⊗ (num (pos 2048) ⊗ at 0)) ⊗ at 2) (at 1 ⊗ (num (pos 2048) ⊗ (at 0 ⊗ at 2))) refl)

pub end_later : (a b c d n : ℕ) → 256 * a * d < 256 * c * b → 256 * c * b ≤ 256 * a * d + n * (b * d) → toward (a * (2048 * d)) (c * (2048 * b)) (n * (8 * (b * d))) ≡ c * (2048 * b)
end_later a b c d n h k = place (a * (2048 * d)) (c * (2048 * b)) (n * (8 * (b * d))) (omega arith) (omega arith)
  where
    place : (x y m : ℕ) → x < y → y ≤ x + m → toward x y m ≡ y
    place x y m h e = omega arith

pub end_sooner : (a b c d n : ℕ) → 256 * c * b ≤ 256 * a * d → 256 * a * d ≤ 256 * c * b + n * (b * d) → toward (a * (2048 * d)) (c * (2048 * b)) (n * (8 * (b * d))) ≡ c * (2048 * b)
end_sooner a b c d n h k = place (a * (2048 * d)) (c * (2048 * b)) (n * (8 * (b * d))) (omega arith) (omega arith)
  where
    place : (x y m : ℕ) → y ≤ x → x ≤ y + m → toward x y m ≡ y
    place x y m h e = omega arith

pub end_time : (f : Fraction) → IsEnd f → IsTime f
end_time f h = record { some = h.some; den = omega (arith, h.den); least = h.least; greatest = h.greatest }
