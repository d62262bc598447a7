-- From the fractions at which the range is near to contact within the second, and back.
use Rattle.std.proofs.Common.{◌≡◌, ℕ, ◌+◌, ◌*◌, ◌<◌, ◌≤◌, ◌⊎◌, inl, inr, ⊎_elim, [], ◌∷◌, refl, arith, ℤ, pos, negsuc, ◌+ℤ◌, ◌-ℤ◌, ◌*ℤ◌, neg_ℤ, unsigned_abs, ◌≤ℤ◌, ◌<ℤ◌}
use Rattle.std.specs.Int.{int_max, int_min}
use Rattle.std.proofs.lemmas.Int.{ints, clamps}
use lib.IntN.{*ℤ_comm}
use Rattle.acas_frac.proofs.SignedProducts.{add-mul_ℤ, mul-lt_ℤ}
use Rattle.acas_frac.proofs.IntRing.{ring, at, num, sub-mul_ℤ, ◌⊕◌, ◌⊖◌, ◌⊗◌}
use Rattle.acas_frac.proofs.Orders.{cases_lt_ℤ, mul_nonneg, unsigned_abs-le, unsigned_abs-low, unsigned_abs-high}
use Rattle.acas_replay.specs.Contact.{HasContact, separation}
use Rattle.acas_replay.specs.Seconds.{near_fractions}
use Rattle.acas_replay.specs.Parabola.{ComesDown, ComesInside, IsBetween, StaysAbove, StaysOutside, lowered, turned, value_at}
use Rattle.acas_replay.specs.declared.parabola.Parabola.{Parabola}
use Rattle.acas_replay.specs.declared.second.Second.{Second}
use Rattle.acas_replay.proofs.Signs.{below_some, mul_le_by, mul_le_right}
use Rattle.acas_replay.proofs.Parabolas.{stays_or_comes_down}
use Rattle.acas_replay.proofs.Crossings.{AreInSecond, Crosses, IsWithin, crosses, not_after, not_before}

-- how far above the intruder is, as a parabola
abbrev pub parabola_of : Second → Parabola
parabola_of s = record { level = s.altitude; slope = s.rate; bend = s.change }

near_in_second : (radius : ℕ) (s : Second) → pos 0 <ℤ s.closing → AreInSecond (near_fractions radius s)
near_in_second radius s some = record { some = some; first = low (s.range -ℤ pos radius); last = high (s.range +ℤ pos radius) s.closing }
  where
    low : (x : ℤ) → pos 0 ≤ℤ int_max x (pos 0)
    low x = omega (arith, ints, clamps)

    high : (x y : ℤ) → int_min x y ≤ℤ y
    high x y = omega (arith, ints, clamps)

-- a product with the greater of two numbers is at most a third, where both products are; and with the less of two likewise
max_times : (x q z : ℤ) → (x *ℤ q) ≤ℤ z → pos 0 ≤ℤ z → (int_max x (pos 0) *ℤ q) ≤ℤ z
max_times x q z h k =
    ⊎_elim
    (λ (l : x <ℤ pos 0). let e : int_max x (pos 0) ≡ pos 0 = omega (arith, ints, clamps) in rw (e, zero_times q) k)
    (λ (l : pos 0 ≤ℤ x). let e : int_max x (pos 0) ≡ x = omega (arith, ints, clamps) in rw e h)
    (cases_lt_ℤ x (pos 0))
  where
    zero_times : (q : ℤ) → pos 0 *ℤ q ≡ pos 0
    zero_times q = omega (arith, ints)

min_times : (x y q z : ℤ) → z ≤ℤ (x *ℤ q) → z ≤ℤ (y *ℤ q) → z ≤ℤ (int_min x y *ℤ q)
min_times x y q z h k =
    ⊎_elim
    (λ (l : x <ℤ y). let e : int_min x y ≡ x = omega (arith, ints, clamps) in rw e h)
    (λ (l : y ≤ℤ x). let e : int_min x y ≡ y = omega (arith, ints, clamps) in rw e k)
    (cases_lt_ℤ x y)

module _ (radius half : ℕ) (s : Second) (some : pos 0 <ℤ s.closing) where
  -- ---- horizontal contact

  -- at a fraction between the two
  near_of : (q a : ℕ) → IsBetween (near_fractions radius s) (pos q) (pos a) → unsigned_abs (s.range *ℤ pos q -ℤ s.closing *ℤ pos a) ≤ radius * q
  near_of q a b =
      let low = mul_le_right (pos q) (s.range -ℤ pos radius) (near_fractions radius s).first (below_some b.some) (above (s.range -ℤ pos radius)) in
      let high = mul_le_right (pos q) (near_fractions radius s).last (s.range +ℤ pos radius) (below_some b.some) (below (s.range +ℤ pos radius) s.closing) in
      unsigned_abs-le (s.range *ℤ pos q -ℤ s.closing *ℤ pos a) (radius * q)
      (least (s.range *ℤ pos q) (pos (radius * q)) (s.closing *ℤ pos a) ((near_fractions radius s).last *ℤ pos q) b.before (rw (add-mul_ℤ s.range (pos radius) (pos q)) at high))
      (most (s.range *ℤ pos q) (pos (radius * q)) (s.closing *ℤ pos a) ((near_fractions radius s).first *ℤ pos q) b.after (rw (sub-mul_ℤ s.range (pos radius) (pos q)) at low))
    where
      above : (x : ℤ) → x ≤ℤ int_max x (pos 0)
      above x = omega (arith, ints, clamps)

      below : (x y : ℤ) → int_min x y ≤ℤ x
      below x y = omega (arith, ints, clamps)

      least : (x y z t : ℤ) → z ≤ℤ t → t ≤ℤ (x +ℤ y) → neg_ℤ y ≤ℤ (x -ℤ z)
      least x y z t h k = omega (arith, ints)

      most : (x y z t : ℤ) → t ≤ℤ z → (x -ℤ y) ≤ℤ t → (x -ℤ z) ≤ℤ y
      most x y z t h k = omega (arith, ints)

  -- and at no other of the second
  between_of : (q a : ℕ) → 0 < q → a ≤ q → unsigned_abs (s.range *ℤ pos q -ℤ s.closing *ℤ pos a) ≤ radius * q → IsBetween (near_fractions radius s) (pos q) (pos a)
  between_of q a some_q inside near = record {
    some = omega (arith, ints);
    after =
        max_times (s.range -ℤ pos radius) (pos q) (s.closing *ℤ pos a)
        (rw (sub-mul_ℤ s.range (pos radius) (pos q)) (most (s.range *ℤ pos q) (pos (radius * q)) (s.closing *ℤ pos a) (unsigned_abs-high (s.range *ℤ pos q -ℤ s.closing *ℤ pos a) (radius * q) near)))
        (mul_nonneg s.closing (pos a) (below_some some) (omega (arith, ints)));
    before =
        min_times (s.range +ℤ pos radius) s.closing (pos q) (s.closing *ℤ pos a)
        (rw (add-mul_ℤ s.range (pos radius) (pos q)) (least (s.range *ℤ pos q) (pos (radius * q)) (s.closing *ℤ pos a) (unsigned_abs-low (s.range *ℤ pos q -ℤ s.closing *ℤ pos a) (radius * q) near)))
        (mul_le_by s.closing (pos a) (pos q) (below_some some) (omega (arith, ints)));
  }
    where
      most : (x y z : ℤ) → (x -ℤ z) ≤ℤ y → (x -ℤ y) ≤ℤ z
      most x y z h = omega (arith, ints)

      least : (x y z : ℤ) → neg_ℤ y ≤ℤ (x -ℤ z) → z ≤ℤ (x +ℤ y)
      least x y z h = omega (arith, ints)

  -- ---- vertical contact

  value_at-lowered : (q a : ℤ) → value_at (lowered (parabola_of s) (pos half)) a q ≡ value_at (parabola_of s) a q -ℤ pos half *ℤ (q *ℤ q)
  unfolding value_at
  value_at-lowered q a = ring (s.altitude ∷ s.rate ∷ s.change ∷ pos half ∷ q ∷ a ∷ [])
      ((((at 0 ⊖ at 3) ⊗ (at 4 ⊗ at 4)) ⊕ ((num (pos 2) ⊗ at 1) ⊗ (at 5 ⊗ at 4))) ⊕ (at 2 ⊗ (at 5 ⊗ at 5)))
      ((((at 0 ⊗ (at 4 ⊗ at 4)) ⊕ ((num (pos 2) ⊗ at 1) ⊗ (at 5 ⊗ at 4))) ⊕ (at 2 ⊗ (at 5 ⊗ at 5))) ⊖ (at 3 ⊗ (at 4 ⊗ at 4))) refl

  value_at-turned : (q a : ℤ) → value_at (lowered (turned (parabola_of s)) (pos half)) a q ≡ (pos 0 -ℤ value_at (parabola_of s) a q) -ℤ pos half *ℤ (q *ℤ q)
  unfolding value_at
  value_at-turned q a = ring (s.altitude ∷ s.rate ∷ s.change ∷ pos half ∷ q ∷ a ∷ [])
      (((((num (pos 0) ⊖ at 0) ⊖ at 3) ⊗ (at 4 ⊗ at 4)) ⊕ ((num (pos 2) ⊗ (num (pos 0) ⊖ at 1)) ⊗ (at 5 ⊗ at 4))) ⊕ ((num (pos 0) ⊖ at 2) ⊗ (at 5 ⊗ at 5)))
      ((num (pos 0) ⊖ (((at 0 ⊗ (at 4 ⊗ at 4)) ⊕ ((num (pos 2) ⊗ at 1) ⊗ (at 5 ⊗ at 4))) ⊕ (at 2 ⊗ (at 5 ⊗ at 5)))) ⊖ (at 3 ⊗ (at 4 ⊗ at 4))) refl

  value_at-separation : (q a : ℕ) → value_at (parabola_of s) (pos a) (pos q) ≡ separation s q a
  unfolding value_at
  value_at-separation q a = refl

  contact_at : (q a : ℤ) → pos 0 ≤ℤ a → a ≤ℤ q → IsBetween (near_fractions radius s) q a → IsWithin (pos half *ℤ (q *ℤ q)) (value_at (parabola_of s) a q) → HasContact radius half s
  contact_at (pos q) (pos a) l m b w = (
    q,
    a,
    record {
      some = some_parts b.some;
      within = omega (arith, ints);
      horizontal = near_of q a b;
      vertical = unsigned_abs-le (separation s q a) (half * (q * q)) (rw (value_at-separation q a) at w.at_least) (rw (value_at-separation q a) at w.at_most);
    },
  )
    where
      some_parts : pos 0 <ℤ pos q → 0 < q
      some_parts h = omega (arith, ints)
  contact_at (negsuc q) (pos a) l m b w = absurd (omega (arith, ints))
  contact_at q (negsuc a) l m b w = absurd (omega (arith, ints))

  contact_of : Crosses (parabola_of s) (pos half) (near_fractions radius s) → HasContact radius half s
  contact_of e =
      let i = near_in_second radius s some in
      contact_at e.0 e.1 (not_before (near_fractions radius s) e.0 e.1 i e.2) (not_after (near_fractions radius s) e.0 e.1 i e.2) e.2 e.3

  -- ---- all cases

  -- it stays above the half height, or below its opposite
  none_above : StaysAbove (lowered (parabola_of s) (pos half)) (near_fractions radius s) → HasContact radius half s → ⊥
  none_above stays e =
      let b = between_of e.0 e.1 e.2.some e.2.within e.2.horizontal in
      let p = stays (pos e.0) (pos e.1) b in
      over (separation s e.0 e.1) (half * (e.0 * e.0)) (rw (value_at-lowered (pos e.0) (pos e.1), value_at-separation e.0 e.1) at p) e.2.vertical
    where
      over : (x : ℤ) (y : ℕ) → pos 0 <ℤ (x -ℤ pos y) → unsigned_abs x ≤ y → ⊥
      over x y h k = omega (arith, ints)

  none_below : StaysAbove (lowered (turned (parabola_of s)) (pos half)) (near_fractions radius s) → HasContact radius half s → ⊥
  none_below stays e =
      let b = between_of e.0 e.1 e.2.some e.2.within e.2.horizontal in
      let p = stays (pos e.0) (pos e.1) b in
      under (separation s e.0 e.1) (half * (e.0 * e.0)) (rw (value_at-turned (pos e.0) (pos e.1), value_at-separation e.0 e.1) at p) e.2.vertical
    where
      under : (x : ℤ) (y : ℕ) → pos 0 <ℤ ((pos 0 -ℤ x) -ℤ pos y) → unsigned_abs x ≤ y → ⊥
      under x y h k = omega (arith, ints)

  pub none_outside : StaysOutside (pos half) (parabola_of s) (near_fractions radius s) → HasContact radius half s → ⊥
  none_outside o e = ⊎_elim (λ l. none_above l e) (λ l. none_below l e) o

  -- no fraction is near
  pub none_near : (near_fractions radius s).last <ℤ (near_fractions radius s).first → HasContact radius half s → ⊥
  none_near l e =
      let b = between_of e.0 e.1 e.2.some e.2.within e.2.horizontal in
      let m = mul-lt_ℤ e.0 (near_fractions radius s).last (near_fractions radius s).first e.2.some l in
      apart ((near_fractions radius s).first *ℤ pos e.0) (s.closing *ℤ pos e.1) ((near_fractions radius s).last *ℤ pos e.0) b.after b.before
      (rw (*ℤ_comm (pos e.0) (near_fractions radius s).last, *ℤ_comm (pos e.0) (near_fractions radius s).first) at m)
    where
      apart : (x y z : ℤ) → x ≤ℤ y → y ≤ℤ z → z <ℤ x → ⊥
      apart x y z h k l = omega (arith, ints)

  -- in every other case some fraction is in contact
  pub some_inside : 0 < half → ComesInside (pos half) (parabola_of s) (near_fractions radius s) → HasContact radius half s
  some_inside some_half e =
      contact_of
      (crosses (parabola_of s) half (unsigned_abs s.rate + unsigned_abs s.change + 1) (near_fractions radius s) some_half (omega arith) (near_in_second radius s some)
      e.0.0 e.0.1 e.1.0 e.1.1 e.0.2 e.1.2
      (most (value_at (parabola_of s) e.0.1 e.0.0) (pos half *ℤ (e.0.0 *ℤ e.0.0)) (rw (value_at-lowered e.0.0 e.0.1) at e.0.3))
      (least (value_at (parabola_of s) e.1.1 e.1.0) (pos half *ℤ (e.1.0 *ℤ e.1.0)) (rw (value_at-turned e.1.0 e.1.1) at e.1.3)))
    where
      most : (x y : ℤ) → (x -ℤ y) ≤ℤ pos 0 → x ≤ℤ y
      most x y h = omega (arith, ints)

      least : (x y : ℤ) → ((pos 0 -ℤ x) -ℤ y) ≤ℤ pos 0 → neg_ℤ y ≤ℤ x
      least x y h = omega (arith, ints)

  -- so it is known whether there is contact
  pub contact_or_none : 0 < half → HasContact radius half s ⊎ (HasContact radius half s → ⊥)
  contact_or_none some_half =
      ⊎_elim
      (λ (l : (near_fractions radius s).last <ℤ (near_fractions radius s).first). inr (none_near l))
      (λ (l : (near_fractions radius s).first ≤ℤ (near_fractions radius s).last). ordered l)
      (cases_lt_ℤ (near_fractions radius s).last (near_fractions radius s).first)
    where
      ordered : (near_fractions radius s).first ≤ℤ (near_fractions radius s).last → HasContact radius half s ⊎ (HasContact radius half s → ⊥)
      ordered l =
          ⊎_elim
          (λ (above : StaysAbove (lowered (parabola_of s) (pos half)) (near_fractions radius s)). inr (none_above above))
          (λ (low : ComesDown (lowered (parabola_of s) (pos half)) (near_fractions radius s)).
          ⊎_elim
          (λ (below : StaysAbove (lowered (turned (parabola_of s)) (pos half)) (near_fractions radius s)). inr (none_below below))
          (λ (high : ComesDown (lowered (turned (parabola_of s)) (pos half)) (near_fractions radius s)). inl (some_inside some_half (low, high)))
          (stays_or_comes_down (lowered (turned (parabola_of s)) (pos half)) (near_fractions radius s) some l))
          (stays_or_comes_down (lowered (parabola_of s) (pos half)) (near_fractions radius s) some l)
