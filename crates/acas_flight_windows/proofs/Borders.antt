-- The least gap of a border, over every denominator, from the numbers of one.
use Rattle.std.proofs.Common.{◌≡◌, ℕ, ◌-◌, ◌*◌, ◌<◌, ◌≤◌, refl, sym, ap, ap₂, ◌∙◌, arith, [], ◌∷◌, ℤ, pos, ◌-ℤ◌, ◌*ℤ◌, ◌≤ℤ◌, ◌<ℤ◌, mul-pos}
use Rattle.std.proofs.lemmas.Int.{ints}
use lib.IntN.{*ℤ_comm}
use Rattle.acas_frac.proofs.SignedProducts.{mul-le_ℤ, mul-lt_ℤ, le-from_mul_ℤ, lt-from_mul_ℤ}
use Rattle.acas_frac.proofs.IntRing.{at, num, ◌⊕◌, ◌⊖◌, ◌⊗◌, ring, sub-mul_ℤ}
use Rattle.acas_flight_lemmas.proofs.Held.{held-scaled}
use Rattle.acas_flight_lemmas.proofs.Tangents.{gap, least_of_later, earlier_is_greater, earlier_than_slower}
use Rattle.acas_flight.specs.Contact.{vertical_separation}
use Rattle.acas_flight.specs.Curves.{held}
use Rattle.acas_flight.specs.Border.{Border, border_of, border_gap, IsGapAt}
use Rattle.acas_frac.specs.Fraction.{Fraction}

abbrev curve : Border → ℕ → ℕ → ℤ
curve s q t = held (s.start *ℤ pos (q * q)) (s.aim *ℤ pos (q * q)) (s.pull * q) (s.hold * q) t

pub border_gap-gap : (s : Border) (q t : ℕ) → border_gap s q t ≡ gap (curve s q t) (s.rate *ℤ pos (q * q)) (s.pull * q) t -ℤ (pos (s.pull * q) *ℤ ((s.height *ℤ pos q) *ℤ pos (q * q)))
border_gap-gap s q t = ring (curve s q t ∷ pos s.pull ∷ pos q ∷ s.height ∷ s.rate ∷ pos t ∷ [])
    (at 0 ⊖ ((at 1 ⊗ at 2) ⊗ ((((at 3 ⊗ at 2) ⊗ (at 2 ⊗ at 2)) ⊕ (((num (pos 2) ⊗ (at 4 ⊗ at 2)) ⊗ at 5) ⊗ at 2)) ⊖ num (pos 0))))
    ((at 0 ⊖ (((num (pos 2) ⊗ (at 4 ⊗ (at 2 ⊗ at 2))) ⊗ at 5) ⊗ (at 1 ⊗ at 2))) ⊖ ((at 1 ⊗ at 2) ⊗ ((at 3 ⊗ at 2) ⊗ (at 2 ⊗ at 2))))
    refl

pub le_by : (a b x y c : ℤ) → a ≡ x -ℤ c → b ≡ y -ℤ c → x ≤ℤ y → a ≤ℤ b
le_by a b x y c e f h = omega (arith, ints)

pub lt_by : (a b x y c : ℤ) → a ≡ x -ℤ c → b ≡ y -ℤ c → x <ℤ y → a <ℤ b
lt_by a b x y c e f h = omega (arith, ints)

-- ---- scales

border_gap-scaled : (s : Border) (q t m : ℕ) → border_gap s (q * m) (t * m) ≡ border_gap s q t *ℤ pos ((m * m) * (m * m))
border_gap-scaled s q t m =
    ap₂ (λ (a b : ℤ). a -ℤ b)
    (ap₂ (λ (v k : ℤ). held v k (s.pull * (q * m)) (s.hold * (q * m)) (t * m)) (out s.start) (out s.aim)
    ∙ ap₂ (λ (b g : ℕ). held ((s.start *ℤ pos (q * q)) *ℤ pos (m * m)) ((s.aim *ℤ pos (q * q)) *ℤ pos (m * m)) b g (t * m)) (along s.pull) (along s.hold)
    ∙ held-scaled (s.start *ℤ pos (q * q)) (s.aim *ℤ pos (q * q)) (s.pull * q) (s.hold * q) t m m)
    (ring (pos s.pull ∷ pos q ∷ pos m ∷ s.height ∷ s.rate ∷ pos t ∷ [])
    ((at 0 ⊗ (at 1 ⊗ at 2)) ⊗ ((((at 3 ⊗ (at 1 ⊗ at 2)) ⊗ ((at 1 ⊗ at 2) ⊗ (at 1 ⊗ at 2))) ⊕ (((num (pos 2) ⊗ (at 4 ⊗ (at 1 ⊗ at 2))) ⊗ (at 5 ⊗ at 2)) ⊗ (at 1 ⊗ at 2))) ⊖ num (pos 0)))
    (((at 0 ⊗ at 1) ⊗ ((((at 3 ⊗ at 1) ⊗ (at 1 ⊗ at 1)) ⊕ (((num (pos 2) ⊗ (at 4 ⊗ at 1)) ⊗ at 5) ⊗ at 1)) ⊖ num (pos 0))) ⊗ ((at 2 ⊗ at 2) ⊗ (at 2 ⊗ at 2)))
    refl)
    ∙ sym (sub-mul_ℤ (curve s q t) (pos (s.pull * q) *ℤ vertical_separation q (s.height *ℤ pos q) (s.rate *ℤ pos q) t (pos 0)) (pos ((m * m) * (m * m))))
  where
    out : (v : ℤ) → v *ℤ pos ((q * m) * (q * m)) ≡ (v *ℤ pos (q * q)) *ℤ pos (m * m)
    out v = ring (v ∷ pos q ∷ pos m ∷ []) (at 0 ⊗ ((at 1 ⊗ at 2) ⊗ (at 1 ⊗ at 2))) ((at 0 ⊗ (at 1 ⊗ at 1)) ⊗ (at 2 ⊗ at 2)) refl

    along : (b : ℕ) → b * (q * m) ≡ (b * q) * m
    along b = omega arith

-- what holds of the numbers over q * m holds over q
module _ (s : Border) (time y : Fraction) (val : IsGapAt s time y) (n : ℕ) (en : time.num ≡ pos n) where
  at_time : (q e : ℕ) → 0 < q * (time.den * e) → y.num *ℤ pos ((q * (time.den * e)) * (q * (time.den * e)) * (q * (time.den * e)) * (s.pull * (q * (time.den * e)))) ≡ border_gap s (q * (time.den * e)) (n * q * e) *ℤ pos y.den
  at_time q e p = val.over (q * (time.den * e)) (n * q * e) p
      (ring (pos n ∷ pos q ∷ pos e ∷ pos time.den ∷ []) (((at 0 ⊗ at 1) ⊗ at 2) ⊗ at 3) (at 0 ⊗ (at 1 ⊗ (at 3 ⊗ at 2))) refl ∙ ap (λ z. z *ℤ pos (q * (time.den * e))) (sym en))

  wide : (q m : ℕ) → pos ((m * m) * (m * m)) *ℤ (y.num *ℤ pos (q * q * q * (s.pull * q))) ≡ y.num *ℤ pos ((q * m) * (q * m) * (q * m) * (s.pull * (q * m)))
  wide q m = ring (y.num ∷ pos q ∷ pos m ∷ pos s.pull ∷ [])
      (((at 2 ⊗ at 2) ⊗ (at 2 ⊗ at 2)) ⊗ (at 0 ⊗ (((at 1 ⊗ at 1) ⊗ at 1) ⊗ (at 3 ⊗ at 1))))
      (at 0 ⊗ ((((at 1 ⊗ at 2) ⊗ (at 1 ⊗ at 2)) ⊗ (at 1 ⊗ at 2)) ⊗ (at 3 ⊗ (at 1 ⊗ at 2))))
      refl

  far : (q t m : ℕ) → pos ((m * m) * (m * m)) *ℤ (border_gap s q t *ℤ pos y.den) ≡ pos y.den *ℤ border_gap s (q * m) (t * m)
  far q t m =
      ring (pos m ∷ border_gap s q t ∷ pos y.den ∷ []) (((at 0 ⊗ at 0) ⊗ (at 0 ⊗ at 0)) ⊗ (at 1 ⊗ at 2)) (at 2 ⊗ (at 1 ⊗ ((at 0 ⊗ at 0) ⊗ (at 0 ⊗ at 0)))) refl
      ∙ ap (λ z. pos y.den *ℤ z) (sym (border_gap-scaled s q t m))

  near : (q e : ℕ) → 0 < q * (time.den * e) → pos (((time.den * e) * (time.den * e)) * ((time.den * e) * (time.den * e))) *ℤ (y.num *ℤ pos (q * q * q * (s.pull * q))) ≡ pos y.den *ℤ border_gap s (q * (time.den * e)) (n * q * e)
  near q e p = wide q (time.den * e) ∙ at_time q e p ∙ *ℤ_comm (border_gap s (q * (time.den * e)) (n * q * e)) (pos y.den)

  pub lift_le : (q t e : ℕ) → 0 < q → 0 < time.den * e → border_gap s (q * (time.den * e)) (n * q * e) ≤ℤ border_gap s (q * (time.den * e)) (t * (time.den * e)) →
      (y.num *ℤ pos (q * q * q * (s.pull * q))) ≤ℤ (border_gap s q t *ℤ pos y.den)
  lift_le q t e p pm h =
      le-from_mul_ℤ (((time.den * e) * (time.den * e)) * ((time.den * e) * (time.den * e))) (y.num *ℤ pos (q * q * q * (s.pull * q))) (border_gap s q t *ℤ pos y.den) (mul-pos (mul-pos pm pm) (mul-pos pm pm))
      (rw (near q e (mul-pos p pm), far q t (time.den * e)) (mul-le_ℤ y.den (border_gap s (q * (time.den * e)) (n * q * e)) (border_gap s (q * (time.den * e)) (t * (time.den * e))) h))

  pub lift_lt : (q t e : ℕ) → 0 < q → 0 < time.den * e → 0 < y.den → border_gap s (q * (time.den * e)) (n * q * e) <ℤ border_gap s (q * (time.den * e)) (t * (time.den * e)) →
      (y.num *ℤ pos (q * q * q * (s.pull * q))) <ℤ (border_gap s q t *ℤ pos y.den)
  lift_lt q t e p pm py h =
      lt-from_mul_ℤ (((time.den * e) * (time.den * e)) * ((time.den * e) * (time.den * e))) (y.num *ℤ pos (q * q * q * (s.pull * q))) (border_gap s q t *ℤ pos y.den)
      (rw (near q e (mul-pos p pm), far q t (time.den * e)) (mul-lt_ℤ y.den (border_gap s (q * (time.den * e)) (n * q * e)) (border_gap s (q * (time.den * e)) (t * (time.den * e))) py h))

-- ---- a rising curve, over one denominator q

module _ (k : ℤ) (x b g : ℕ) (h w : ℤ) (q : ℕ) (sq : 0 < q) (sb : 0 < b) where
  low : (t : ℕ) → curve (border_of (k -ℤ pos x) k b g h w) q t ≡ held ((k *ℤ pos (q * q)) -ℤ pos (x * (q * q))) (k *ℤ pos (q * q)) (b * q) (g * q) t
  low t = ap (λ v. held v (k *ℤ pos (q * q)) (b * q) (g * q) t) (ring (k ∷ pos x ∷ pos q ∷ []) ((at 0 ⊖ at 1) ⊗ (at 2 ⊗ at 2)) ((at 0 ⊗ (at 2 ⊗ at 2)) ⊖ (at 1 ⊗ (at 2 ⊗ at 2))) refl)

  gap_low : (t : ℕ) → border_gap (border_of (k -ℤ pos x) k b g h w) q t ≡ gap (held ((k *ℤ pos (q * q)) -ℤ pos (x * (q * q))) (k *ℤ pos (q * q)) (b * q) (g * q) t) (w *ℤ pos (q * q)) (b * q) t -ℤ (pos (b * q) *ℤ ((h *ℤ pos q) *ℤ pos (q * q)))
  gap_low t = border_gap-gap (border_of (k -ℤ pos x) k b g h w) q t ∙ ap (λ z. gap z (w *ℤ pos (q * q)) (b * q) t -ℤ (pos (b * q) *ℤ ((h *ℤ pos q) *ℤ pos (q * q)))) (low t)

  pub later_by : (s t : ℕ) → (w *ℤ pos (q * q)) ≤ℤ ((k *ℤ pos (q * q)) -ℤ pos (x * (q * q) - (b * q) * (s - g * q))) → s ≤ t → border_gap (border_of (k -ℤ pos x) k b g h w) q s ≤ℤ border_gap (border_of (k -ℤ pos x) k b g h w) q t
  later_by s t i l = le_by _ _ _ _ (pos (b * q) *ℤ ((h *ℤ pos q) *ℤ pos (q * q))) (gap_low s) (gap_low t) (least_of_later (k *ℤ pos (q * q)) (x * (q * q)) (b * q) (g * q) (w *ℤ pos (q * q)) s t i l)

  pub sooner_by : (s t : ℕ) → ((k *ℤ pos (q * q)) -ℤ pos (x * (q * q) - (b * q) * (s - g * q))) <ℤ (w *ℤ pos (q * q)) → t < s → border_gap (border_of (k -ℤ pos x) k b g h w) q s <ℤ border_gap (border_of (k -ℤ pos x) k b g h w) q t
  sooner_by s t i l = lt_by _ _ _ _ (pos (b * q) *ℤ ((h *ℤ pos q) *ℤ pos (q * q))) (gap_low s) (gap_low t) (earlier_than_slower (k *ℤ pos (q * q)) (x * (q * q)) (b * q) (g * q) (w *ℤ pos (q * q)) s t (mul-pos sb sq) i l)

  pub sooner_at : (s t : ℕ) → w *ℤ pos (q * q) ≡ (k *ℤ pos (q * q)) -ℤ pos (x * (q * q) - (b * q) * (s - g * q)) → g * q < s → (b * q) * (s - g * q) ≤ x * (q * q) → t < s →
      border_gap (border_of (k -ℤ pos x) k b g h w) q s <ℤ border_gap (border_of (k -ℤ pos x) k b g h w) q t
  sooner_at s t e i j l =
      lt_by _ _ _ _ (pos (b * q) *ℤ ((h *ℤ pos q) *ℤ pos (q * q))) (gap_low s) (gap_low t)
      (rw e (earlier_is_greater (k *ℤ pos (q * q)) (x * (q * q)) (b * q) (g * q) s t (mul-pos sb sq) i j l))
