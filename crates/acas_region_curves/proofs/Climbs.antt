-- The lowest and the highest climb by the curve of the side that the start rate is on.
use Rattle.std.proofs.Common.{◌≡◌, ℕ, ◌*◌, ◌<◌, ⊎_elim, refl, sym, ap, ◌∙◌, arith, Bool, cond, [], ◌∷◌, ℤ, pos, ◌*ℤ◌, ◌≤ℤ◌, ◌<ℤ◌, int_lt, mul-pos}
use Rattle.std.proofs.lemmas.Int.{ints}
use Rattle.acas_frac.proofs.SignedProducts.{mul-lt_ℤ, lt-from_mul_ℤ}
use Rattle.acas_frac.proofs.IntRing.{at, num, ◌⊗◌, ring}
use Rattle.acas_frac.proofs.Orders.{cases_lt_ℤ}
use Rattle.acas_flight.proofs.Between.{test_lt, test_ge}
use Rattle.acas_flight.proofs.Holding.{held-none}
use Rattle.acas_flight_lemmas.proofs.Gaps.{cond_times, cond_none}
use Rattle.acas_frac.specs.Fraction.{Fraction, whole_of}
use Rattle.acas_flight.specs.Response.{Demand, scaled}
use Rattle.acas_flight.specs.Curves.{low_pull, high_pull, lowest, highest}
use Rattle.acas_flight.specs.Values.{IsOver, IsHeld, IsApproach, IsLowestClimb, IsHighestClimb}

pub whole_over : (q : ℕ) (n : ℤ) → IsOver q (n *ℤ pos q) (whole_of n)
whole_over q n = ring (n ∷ pos q ∷ []) ((at 0 ⊗ at 1) ⊗ num (pos 1)) (at 0 ⊗ at 1) refl

at_zero : (q : ℕ) → IsOver q (pos 0) (whole_of (pos 0))
at_zero q = ring (pos q ∷ []) (num (pos 0) ⊗ num (pos 1)) (num (pos 0) ⊗ at 0) refl

pub approach_of : (v k b t y : Fraction) → IsHeld v k b (whole_of (pos 0)) t y → IsApproach v k b t y
approach_of v k b t y h = record { over = λ q vn kn bn tn p iv ik ib it. h.over q vn kn bn 0 tn p iv ik ib (at_zero q) it ∙ ap (λ z. z *ℤ pos y.den) (held-none vn kn bn tn) }

-- a test of numbers over one denominator is the test over another
cancel_test : (a b x y : ℤ) (m n : ℕ) → 0 < m → 0 < n → pos m *ℤ a ≡ pos n *ℤ x → pos m *ℤ b ≡ pos n *ℤ y → int_lt a b ≡ int_lt x y
cancel_test a b x y m n pm pn e f =
    ⊎_elim
    (λ h. let k = rw (e, f) at (mul-lt_ℤ m a b pm h) in test_lt a b h ∙ sym (test_lt x y (lt-from_mul_ℤ n x y k)))
    (λ h. ⊎_elim
    (λ j. let k = rw (← e, ← f) at (mul-lt_ℤ n x y pn j) in absurd (none a b (lt-from_mul_ℤ m a b k) h))
    (λ j. test_ge a b h ∙ sym (test_ge x y j))
    (cases_lt_ℤ x y))
    (cases_lt_ℤ a b)
  where
    none : (a b : ℤ) → a <ℤ b → b ≤ℤ a → ⊥
    none a b h k = omega (arith, ints)

rate_test : (q : ℕ) (vn k : ℤ) (v : Fraction) → 0 < q → 0 < v.den → IsOver (q * q) vn v → int_lt vn (k *ℤ pos (q * q)) ≡ int_lt v.num (k *ℤ pos v.den)
rate_test q vn k v p s e =
    cancel_test vn (k *ℤ pos (q * q)) v.num (k *ℤ pos v.den) v.den (q * q) s (mul-pos p p)
    (ring (pos v.den ∷ vn ∷ []) (at 0 ⊗ at 1) (at 1 ⊗ at 0) refl ∙ e ∙ ring (v.num ∷ pos q ∷ []) (at 0 ⊗ (at 1 ⊗ at 1)) ((at 1 ⊗ at 1) ⊗ at 0) refl)
    (ring (pos v.den ∷ k ∷ pos q ∷ []) (at 0 ⊗ (at 1 ⊗ (at 2 ⊗ at 2))) ((at 2 ⊗ at 2) ⊗ (at 1 ⊗ at 0)) refl)

rate_test' : (q : ℕ) (vn k : ℤ) (v : Fraction) → 0 < q → 0 < v.den → IsOver (q * q) vn v → int_lt (k *ℤ pos (q * q)) vn ≡ int_lt (k *ℤ pos v.den) v.num
rate_test' q vn k v p s e =
    cancel_test (k *ℤ pos (q * q)) vn (k *ℤ pos v.den) v.num v.den (q * q) s (mul-pos p p)
    (ring (pos v.den ∷ k ∷ pos q ∷ []) (at 0 ⊗ (at 1 ⊗ (at 2 ⊗ at 2))) ((at 2 ⊗ at 2) ⊗ (at 1 ⊗ at 0)) refl)
    (ring (pos v.den ∷ vn ∷ []) (at 0 ⊗ at 1) (at 1 ⊗ at 0) refl ∙ e ∙ ring (v.num ∷ pos q ∷ []) (at 0 ⊗ (at 1 ⊗ at 1)) ((at 1 ⊗ at 1) ⊗ at 0) refl)

-- the pull and the hold of a border, in numbers over q
module _ (a : Demand) (v t y : Fraction) (s : 0 < v.den) where
  pub low_border : (b : Bool) → int_lt v.num (a.lo *ℤ pos v.den) ≡ b → IsHeld v (whole_of a.lo) (whole_of (pos (cond b a.pull a.limit))) (whole_of (pos (cond b a.delay 0))) t y → IsLowestClimb a v t y
  low_border b e h = record { over = λ q vn tn p iv it. at_q q vn tn p iv it }
    where
      at_q : (q : ℕ) (vn : ℤ) (tn : ℕ) → 0 < q → IsOver (q * q) vn v → IsOver q (pos tn) t →
          y.num *ℤ pos (q * q * q * low_pull (scaled q a) vn) ≡ lowest (scaled q a) vn tn *ℤ pos y.den
      at_q q vn tn p iv it =
          let test : int_lt vn (a.lo *ℤ pos (q * q)) ≡ b = rate_test q vn a.lo v p s iv ∙ e in
          let one = h.over q vn (a.lo *ℤ pos (q * q)) (cond b a.pull a.limit * q) (cond b a.delay 0 * q) tn p iv (whole_over (q * q) a.lo) (whole_over q (pos (cond b a.pull a.limit))) (whole_over q (pos (cond b a.delay 0))) it in
          rw test (rw (← cond_times b a.pull a.limit q, ← cond_none b a.delay q) at one)

  pub high_border : (b : Bool) → int_lt (a.hi *ℤ pos v.den) v.num ≡ b → IsHeld v (whole_of a.hi) (whole_of (pos (cond b a.pull a.limit))) (whole_of (pos (cond b a.delay 0))) t y → IsHighestClimb a v t y
  high_border b e h = record { over = λ q vn tn p iv it. at_q q vn tn p iv it }
    where
      at_q : (q : ℕ) (vn : ℤ) (tn : ℕ) → 0 < q → IsOver (q * q) vn v → IsOver q (pos tn) t →
          y.num *ℤ pos (q * q * q * high_pull (scaled q a) vn) ≡ highest (scaled q a) vn tn *ℤ pos y.den
      at_q q vn tn p iv it =
          let test : int_lt (a.hi *ℤ pos (q * q)) vn ≡ b = rate_test' q vn a.hi v p s iv ∙ e in
          let one = h.over q vn (a.hi *ℤ pos (q * q)) (cond b a.pull a.limit * q) (cond b a.delay 0 * q) tn p iv (whole_over (q * q) a.hi) (whole_over q (pos (cond b a.pull a.limit))) (whole_over q (pos (cond b a.delay 0))) it in
          rw test (rw (← cond_times b a.pull a.limit q, ← cond_none b a.delay q) at one)
