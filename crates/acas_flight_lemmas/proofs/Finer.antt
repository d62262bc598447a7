-- A flight in finer numbers.
use Rattle.std.proofs.Common.{◌≡◌, ℕ, ◌*◌, ◌<◌, inl, inr, ⊎_elim, refl, ap, ap₂, ◌∙◌, arith, List, [], ◌∷◌, ℤ, pos, neg_ℤ, ◌+ℤ◌, ◌*ℤ◌, ◌≤ℤ◌, ◌<ℤ◌, mul-pos, mul-le-mul_right}
use lib.IntN.{*ℤ_comm}
use Rattle.acas_frac.proofs.SignedProducts.{le-from_mul_ℤ, lt-from_mul_ℤ, neg-mul_ℤ}
use Rattle.acas_frac.proofs.IntRing.{at, num, ◌⊕◌, ◌⊗◌, ring}
use Rattle.acas_flight_lemmas.proofs.Rising.{scaled_le}
use Rattle.acas_flight.specs.Response.{Segment, Demand, scaled, rate_after, climb_within, climb, lasting, Follows, FollowsThroughout, Holds, Meets}
use Rattle.acas_flight.specs.Parts.{finer}

up_lt : (a b : ℤ) (n : ℕ) → (a *ℤ pos n) <ℤ (b *ℤ pos n) → a <ℤ b
up_lt a b n h = lt-from_mul_ℤ n a b (rw (*ℤ_comm (pos n) a, *ℤ_comm (pos n) b) h)

up_le : (a b : ℤ) (n : ℕ) → 0 < n → (a *ℤ pos n) ≤ℤ (b *ℤ pos n) → a ≤ℤ b
up_le a b n p h = le-from_mul_ℤ n a b p (rw (*ℤ_comm (pos n) a, *ℤ_comm (pos n) b) h)

abbrev pub finer_segment : ℕ → Segment → Segment
finer_segment m s = record { duration = s.duration * m; acceleration = s.acceleration *ℤ pos m }

pub rate_finer : (m : ℕ) (v : ℤ) (s : Segment) → rate_after (v *ℤ pos (m * m)) (finer_segment m s) ≡ rate_after v s *ℤ pos (m * m)
rate_finer m v s =
    ring (v ∷ s.acceleration ∷ pos s.duration ∷ pos m ∷ []) ((at 0 ⊗ (at 3 ⊗ at 3)) ⊕ ((at 1 ⊗ at 3) ⊗ (at 2 ⊗ at 3))) ((at 0 ⊕ (at 1 ⊗ at 2)) ⊗ (at 3 ⊗ at 3)) refl

within_finer : (m : ℕ) (v : ℤ) (s : Segment) → climb_within (v *ℤ pos (m * m)) (finer_segment m s) ≡ climb_within v s *ℤ pos (m * m * m)
within_finer m v s =
    ring (v ∷ s.acceleration ∷ pos s.duration ∷ pos m ∷ [])
    (((num (pos 2) ⊗ (at 0 ⊗ (at 3 ⊗ at 3))) ⊗ (at 2 ⊗ at 3)) ⊕ (((at 1 ⊗ at 3) ⊗ (at 2 ⊗ at 3)) ⊗ (at 2 ⊗ at 3)))
    ((((num (pos 2) ⊗ at 0) ⊗ at 2) ⊕ ((at 1 ⊗ at 2) ⊗ at 2)) ⊗ ((at 3 ⊗ at 3) ⊗ at 3))
    refl

pub climb_finer : (m : ℕ) (v : ℤ) (r : List Segment) → climb (v *ℤ pos (m * m)) (finer m r) ≡ climb v r *ℤ pos (m * m * m)
climb_finer m v [] = ring (pos m ∷ []) (num (pos 0)) (num (pos 0) ⊗ ((at 0 ⊗ at 0) ⊗ at 0)) refl
climb_finer m v (s ∷ rest) =
    ap₂ (λ (x y : ℤ). x +ℤ y) (within_finer m v s) (ap (λ w. climb w (finer m rest)) (rate_finer m v s) ∙ climb_finer m (rate_after v s) rest)
    ∙ ring (climb_within v s ∷ climb (rate_after v s) rest ∷ pos m ∷ []) ((at 0 ⊗ ((at 2 ⊗ at 2) ⊗ at 2)) ⊕ (at 1 ⊗ ((at 2 ⊗ at 2) ⊗ at 2))) ((at 0 ⊕ at 1) ⊗ ((at 2 ⊗ at 2) ⊗ at 2)) refl

pub lasting_finer : (m : ℕ) (r : List Segment) → lasting (finer m r) ≡ lasting r * m
lasting_finer m [] = omega arith
lasting_finer m (s ∷ rest) = let i = lasting_finer m rest in omega (arith, i)

module _ (m : ℕ) (p : 0 < m) (a : Demand) where
  square_some : 0 < m * m
  square_some = mul-pos p p

  under : (n : ℕ) (z : ℤ) → neg_ℤ (pos n) ≤ℤ z → neg_ℤ (pos (n * m)) ≤ℤ (z *ℤ pos m)
  under n z h = let k = scaled_le (neg_ℤ (pos n)) z m h in rw (neg-mul_ℤ (pos n) (pos m)) at k

  over : (n : ℕ) (z : ℤ) → z ≤ℤ neg_ℤ (pos n) → (z *ℤ pos m) ≤ℤ neg_ℤ (pos (n * m))
  over n z h = let k = scaled_le z (neg_ℤ (pos n)) m h in rw (neg-mul_ℤ (pos n) (pos m)) at k

  follows_finer : (v : ℤ) (s : Segment) → Follows a v s → Follows (scaled m a) (v *ℤ pos (m * m)) (finer_segment m s)
  follows_finer v s f = record {
    lasts = mul-pos f.lasts p;
    at_least = under a.limit s.acceleration f.at_least;
    at_most = scaled_le s.acceleration (pos a.limit) m f.at_most;
    from_below = λ h. let b = f.from_below (up_lt v a.lo (m * m) h) in (scaled_le (pos a.pull) s.acceleration m b.0, rw (rate_finer m v s) (scaled_le (rate_after v s) a.hi (m * m) b.1));
    from_above = λ h. let b = f.from_above (up_lt a.hi v (m * m) h) in (over a.pull s.acceleration b.0, rw (rate_finer m v s) (scaled_le a.lo (rate_after v s) (m * m) b.1));
    from_within = λ h k. let b = f.from_within (up_le a.lo v (m * m) square_some h) (up_le v a.hi (m * m) square_some k) in
        (rw (rate_finer m v s) (scaled_le a.lo (rate_after v s) (m * m) b.0), rw (rate_finer m v s) (scaled_le (rate_after v s) a.hi (m * m) b.1));
  }

  throughout_finer : (v : ℤ) (r : List Segment) → FollowsThroughout a v r → FollowsThroughout (scaled m a) (v *ℤ pos (m * m)) (finer m r)
  throughout_finer v [] f = tt
  throughout_finer v (s ∷ rest) f = (follows_finer v s f.0, rw (rate_finer m v s) (throughout_finer (rate_after v s) rest f.1))

  holds_finer : (s : Segment) → Holds a s → Holds (scaled m a) (finer_segment m s)
  holds_finer s h = record { lasts = mul-pos h.lasts p; level = ap (λ z. z *ℤ pos m) h.level ∙ none; in_time = mul-le-mul_right m h.in_time }
    where
      none : pos 0 *ℤ pos m ≡ pos 0
      none = ring (pos m ∷ []) (num (pos 0) ⊗ at 0) (num (pos 0)) refl

  meets_finer : (v : ℤ) (r : List Segment) → Meets a v r → Meets (scaled m a) (v *ℤ pos (m * m)) (finer m r)
  meets_finer v [] f = tt
  meets_finer v (s ∷ rest) f =
      ⊎_elim
      (λ g. inl (throughout_finer v (s ∷ rest) g))
      (λ h. inr (holds_finer s h.0, rw (rate_finer m v s) (throughout_finer (rate_after v s) rest h.1)))
      f

pub finer_meet : (m : ℕ) (a : Demand) (v : ℤ) (response : List Segment) → 0 < m → Meets a v response → Meets (scaled m a) (v *ℤ pos (m * m)) (finer m response)
finer_meet m a v r p f = meets_finer m p a v r f
