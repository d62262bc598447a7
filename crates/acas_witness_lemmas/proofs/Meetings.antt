-- In an area that is not clear the lowest flight is not above the puck, and the highest is not below it.
use Rattle.std.proofs.Common.{subst, ◌≡◌, ◌↔◌, IsTrue, ℕ, ◌*◌, ◌<◌, ◌⊎◌, inl, inr, ⊎_elim, refl, sym, ◌∙◌, arith, Bool, true, false, true≢false, [], ◌∷◌, ℤ, pos, neg_ℤ, ◌+ℤ◌, ◌-ℤ◌, ◌*ℤ◌, ◌<ℤ◌, ◌≤ℤ◌, int_lt, mul-pos}
use Rattle.std.proofs.lemmas.Int.{ints}
use Rattle.acas_frac.proofs.SignedProducts.{mul-neg_ℤ}
use Rattle.acas_frac.proofs.IntRing.{at, num, ◌⊕◌, ◌⊖◌, ◌⊗◌, ring}
use Rattle.acas_frac.proofs.Orders.{cases_lt_ℤ, neg-lt_ℤ}
use Rattle.acas_flight_windows.proofs.GapScales.{over_at_other}
use Rattle.acas_flight_lemmas.proofs.Gaps.{low_pull-border, high_pull-border, least_gap-border, greatest_gap-border}
use Rattle.acas_flight_lemmas.proofs.Endangered.{IsDuring-finer}
use Rattle.acas_frac.specs.Fraction.{Fraction, Same}
use Rattle.acas_areas.specs.Value.{is_below, IsWithinHalf}
use Rattle.acas_areas.proofs.Halvings.{IsWithin-Same}
use Rattle.acas_flight.specs.Response.{Demand}
use Rattle.acas_flight.specs.Clear.{Area, IsClearAbove, IsClearBelow, least_gap, IsClear, low_pull_of, high_pull_of, greatest_gap}
use Rattle.acas_flight.specs.Window.{Times, IsDuring}
use Rattle.acas_flight.specs.Values.{IsOver}
use Rattle.acas_flight.specs.Border.{low_border_of, high_border_of}
use Rattle.acas_flight.specs.Extremes.{IsLowExtreme, IsHighExtreme}
use Rattle.acas_areas.specs.Flights.{value}
use Rattle.acas_areas.specs.Search.{Search, unit, low_time, high_time, low_flight, high_flight, CanMeet}
use Rattle.acas_rulings.specs.Witness.{search_between}
use Rattle.acas_witness_plans.proofs.Overs.{low_over, high_over}
use Rattle.acas_areas.proofs.Finer.{IsOver-finer}

-- the value of a flight and the gap
value_gap : (z : ℤ) (b q t : ℕ) (h w : ℤ) → z -ℤ (pos b *ℤ ((h *ℤ pos (q * q * q)) +ℤ ((pos 2 *ℤ (w *ℤ pos (q * q))) *ℤ pos t)))
    ≡ z -ℤ (pos b *ℤ ((((h *ℤ pos q) *ℤ pos (q * q)) +ℤ (((pos 2 *ℤ (w *ℤ pos q)) *ℤ pos t) *ℤ pos q)) -ℤ pos 0))
value_gap z b q t h w = ring (z ∷ pos b ∷ pos q ∷ pos t ∷ h ∷ w ∷ [])
    (at 0 ⊖ (at 1 ⊗ ((at 4 ⊗ ((at 2 ⊗ at 2) ⊗ at 2)) ⊕ ((num (pos 2) ⊗ (at 5 ⊗ (at 2 ⊗ at 2))) ⊗ at 3))))
    (at 0 ⊖ (at 1 ⊗ ((((at 4 ⊗ at 2) ⊗ (at 2 ⊗ at 2)) ⊕ (((num (pos 2) ⊗ (at 5 ⊗ at 2)) ⊗ at 3) ⊗ at 2)) ⊖ num (pos 0))))
    refl

-- the half height over the pull, in either form
puck : (half p b : ℕ) → pos b *ℤ pos (half * (p * p * p)) ≡ pos (half * (p * p * p * b))
puck half p b = ring (pos half ∷ pos p ∷ pos b ∷ []) (at 2 ⊗ (at 0 ⊗ ((at 1 ⊗ at 1) ⊗ at 1))) (at 0 ⊗ (((at 1 ⊗ at 1) ⊗ at 1) ⊗ at 2)) refl

-- a time of the window over a common denominator
during_other : (p q t : ℕ) (w : Times) → IsDuring q w t → IsDuring (p * q) w (t * p)
during_other p q t w d = let turn : q * p ≡ p * q = omega arith in rw turn at (IsDuring-finer q p w t d)

-- ---- the low side: an area whose gap at the low extreme is above the puck is clear

above_low : (half : ℕ) (a : Demand) (area : Area) (w : Times) (time : Fraction) (p u : ℕ) → 0 < p → IsOver p (pos u) time → IsLowExtreme a area w time →
    pos (half * (p * p * p * low_pull_of p a area)) <ℤ least_gap p a area u → IsClearAbove half a area w
above_low half a area w time p u pp i low h q t pq d =
    let s = low_border_of a area in
    let some = mul-pos pp pq in
    rw (least_gap-border a area q pq t, low_pull-border a area q pq)
    (over_at_other half s p u q t pp pq
    (rw (least_gap-border a area (p * q) some (u * q), least_gap-border a area (p * q) some (t * p)) at
    (low.first.least (p * q) (u * q) (t * p) some (IsOver-finer time p q (pos u) i) (during_other p q t w d)))
    (rw (puck half p (s.pull * p)) (rw (least_gap-border a area p pp u, low_pull-border a area p pp) at h)))

-- ---- the high side: an area whose gap at the high extreme is below the puck is clear

below_high : (half : ℕ) (a : Demand) (area : Area) (w : Times) (time : Fraction) (p u : ℕ) → 0 < p → IsOver p (pos u) time → IsHighExtreme a area w time →
    greatest_gap p a area u <ℤ neg_ℤ (pos (half * (p * p * p * high_pull_of p a area))) → IsClearBelow half a area w
below_high half a area w time p u pp i high h q t pq d =
    let s = high_border_of a area in
    let some = mul-pos pp pq in
    rw (greatest_gap-border a area q pq t, high_pull-border a area q pq, mul-neg_ℤ (pos (s.pull * q)) (pos (half * (q * q * q))))
    (neg-lt_ℤ _ _ (over_at_other half s p u q t pp pq
    (turned_le _ _ (rw (greatest_gap-border a area (p * q) some (u * q), greatest_gap-border a area (p * q) some (t * p)) at
    (high.first.least (p * q) (u * q) (t * p) some (IsOver-finer time p q (pos u) i) (during_other p q t w d))))
    (rw (puck half p (s.pull * p)) (turned_lt _ _ (rw (greatest_gap-border a area p pp u, high_pull-border a area p pp) at h)))))
  where
    turned_le : (y z : ℤ) → neg_ℤ (neg_ℤ y) ≤ℤ neg_ℤ (neg_ℤ z) → y ≤ℤ z
    turned_le y z h = omega (arith, ints)

    turned_lt : (y z : ℤ) → neg_ℤ z <ℤ neg_ℤ y → y <ℤ z
    turned_lt y z h = omega (arith, ints)

-- ---- both flights

module _ (half : ℕ) (a : Demand) (area : Area) (w : Times) (low high : Fraction) (il : IsLowExtreme a area w low) (ih : IsHighExtreme a area w high) where
  some : 0 < unit (search_between a area low high)
  some = mul-pos (omega arith) (mul-pos il.reduced.some ih.reduced.some)

  low_value : (value (unit (search_between a area low high)) (low_flight (search_between a area low high))).num ≡ least_gap (unit (search_between a area low high)) a area (low_time (search_between a area low high))
  low_value = value_gap _ (low_pull_of (unit (search_between a area low high)) a area) (unit (search_between a area low high)) (low_time (search_between a area low high)) area.altitude.greatest area.intruder.greatest

  high_value : (value (unit (search_between a area low high)) (high_flight (search_between a area low high))).num ≡ greatest_gap (unit (search_between a area low high)) a area (high_time (search_between a area low high))
  high_value = value_gap _ (high_pull_of (unit (search_between a area low high)) a area) (unit (search_between a area low high)) (high_time (search_between a area low high)) area.altitude.least area.intruder.least

  -- an area is clear, or the search between its two extremes can meet
  pub clear_or_meet : IsClear half a area w ⊎ CanMeet half (search_between a area low high)
  clear_or_meet =
      let s = search_between a area low high in
      elim (cases_lt_ℤ (pos (half * (value (unit s) (low_flight s)).den)) (value (unit s) (low_flight s)).num) [
        | inl above ↦ inl (inl (above_low half a area w low (unit s) (low_time s) some (low_over s il.ahead) il (rw low_value at above)))
        | inr low_meets ↦ elim (cases_lt_ℤ (value (unit s) (high_flight s)).num (neg_ℤ (pos (half * (value (unit s) (high_flight s)).den)))) [
          | inl below ↦ inl (inr (below_high half a area w high (unit s) (high_time s) some (high_over s ih.ahead) ih (rw high_value at below)))
          | inr high_meets ↦ inr (record { low = low_meets; high = high_meets })
        ]
      ]

  pub can_meet : ¬ IsClear half a area w → CanMeet half (search_between a area low high)
  can_meet not_clear = ⊎_elim (λ c. absurd (not_clear c)) (λ m. m) clear_or_meet

-- ---- the same under other names of the half height and of what is searched

pub renamed : {S : Type 0} (P : ℕ → S → Type 0) (half n : ℕ) (s t : S) → n ≡ half → s ≡ t → P n s → P half t
renamed P half n s t e f h = subst (λ k. P k t) e (subst (λ x. P n x) f h)

-- ---- tests of contact

pub above_of : (half : ℕ) (f : Fraction) → neg_ℤ (pos (half * f.den)) ≤ℤ f.num → is_below half f ≡ false
above_of half f h = let e : false ≡ int_lt f.num (neg_ℤ (pos (half * f.den))) = omega (arith, ints) in sym e

pub within_of : (half : ℕ) (f g : Fraction) (b : Bool) → 0 < f.den → Same f g → (IsTrue b ↔ IsWithinHalf half f) → b ≡ true → IsWithinHalf half g
within_of half f g b p e t h = IsWithin-Same half f g p e (t.0 h)

pub not_within_of : (half : ℕ) (f g : Fraction) (b : Bool) → 0 < g.den → Same f g → (IsTrue b ↔ IsWithinHalf half f) → b ≡ false → ¬ IsWithinHalf half g
not_within_of half f g b p e t h = λ w. true≢false (sym (t.1 (IsWithin-Same half g f p (sym e) w)) ∙ h)
