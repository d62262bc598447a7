-- Where a parabola stays above 0 between two fractions, and where it comes down to it.
use Rattle.std.proofs.Common.{◌≡◌, ◌⊎◌, inl, inr, ⊎_elim, [], ◌∷◌, refl, arith, ℤ, pos, ◌+ℤ◌, ◌-ℤ◌, ◌*ℤ◌, ◌≤ℤ◌, ◌<ℤ◌}
use Rattle.std.proofs.lemmas.Int.{ints}
use lib.IntN.{*ℤ_comm}
use Rattle.acas_frac.proofs.IntRing.{ring, at, num, ◌⊕◌, ◌⊖◌, ◌⊗◌}
use Rattle.acas_frac.proofs.Orders.{cases_lt_ℤ, mul_nonneg}
use Rattle.acas_replay.specs.Parabola.{ComesDown, StaysAbove, half_slope_at, value_at}
use Rattle.acas_replay.specs.declared.parabola.Fractions.{Fractions}
use Rattle.acas_replay.specs.declared.parabola.Parabola.{Parabola}
use Rattle.acas_replay.proofs.Signs.{below_some, mul_le_by, mul_nonpos, mul_opposite, mul_pos_ℤ, pos_from_mul_ℤ, square_nonneg}

gap : (u v : ℤ) → v ≤ℤ u → pos 0 ≤ℤ (u -ℤ v)
gap u v h = omega (arith, ints)

lack : (u v : ℤ) → u ≤ℤ v → (u -ℤ v) ≤ℤ pos 0
lack u v h = omega (arith, ints)

-- ---- between a fraction and one at which it is above 0

-- twice the rise of the chord between a of q parts and n of s parts, over both
abbrev chord : Parabola → ℤ → ℤ → ℤ → ℤ → ℤ
chord p s n q a = pos 2 *ℤ (q *ℤ (p.slope *ℤ s)) +ℤ p.bend *ℤ (s *ℤ a +ℤ n *ℤ q)

-- the difference of two values is a product
value_at-difference : (p : Parabola) (s n q a : ℤ) →
    value_at p a q *ℤ (s *ℤ s) -ℤ value_at p n s *ℤ (q *ℤ q) ≡ (s *ℤ a -ℤ n *ℤ q) *ℤ chord p s n q a
unfolding value_at
value_at-difference p s n q a = ring (p.level ∷ p.slope ∷ p.bend ∷ s ∷ n ∷ q ∷ a ∷ [])
    ((((at 0 ⊗ (at 5 ⊗ at 5)) ⊕ ((num (pos 2) ⊗ at 1) ⊗ (at 6 ⊗ at 5)) ⊕ (at 2 ⊗ (at 6 ⊗ at 6))) ⊗ (at 3 ⊗ at 3))
    ⊖ (((at 0 ⊗ (at 3 ⊗ at 3)) ⊕ ((num (pos 2) ⊗ at 1) ⊗ (at 4 ⊗ at 3)) ⊕ (at 2 ⊗ (at 4 ⊗ at 4))) ⊗ (at 5 ⊗ at 5)))
    (((at 3 ⊗ at 6) ⊖ (at 4 ⊗ at 5)) ⊗ ((num (pos 2) ⊗ (at 5 ⊗ (at 1 ⊗ at 3))) ⊕ (at 2 ⊗ ((at 3 ⊗ at 6) ⊕ (at 4 ⊗ at 5)))))
    refl

above_by : (p : Parabola) (s n q a x y : ℤ) → pos 0 <ℤ s → pos 0 <ℤ q → pos 0 <ℤ value_at p n s →
    value_at p a q *ℤ (s *ℤ s) -ℤ value_at p n s *ℤ (q *ℤ q) ≡ x *ℤ y → pos 0 ≤ℤ (x *ℤ y) → pos 0 <ℤ value_at p a q
above_by p s n q a x y some_s some_q start e k =
    let first = mul_pos_ℤ (value_at p n s) (q *ℤ q) start (mul_pos_ℤ q q some_q some_q) in
    pos_from_mul_ℤ (s *ℤ s) (value_at p a q) (mul_pos_ℤ s s some_s some_s)
    (rw (*ℤ_comm (s *ℤ s) (value_at p a q)) (more (value_at p a q *ℤ (s *ℤ s)) (value_at p n s *ℤ (q *ℤ q)) (x *ℤ y) e first k))
  where
    more : (u v w : ℤ) → u -ℤ v ≡ w → pos 0 <ℤ v → pos 0 ≤ℤ w → pos 0 <ℤ u
    more u v w e h k = omega (arith, ints)

-- after one from which the chord rises, and before one to which it falls
rises_from : (p : Parabola) (s n q a : ℤ) → pos 0 <ℤ s → pos 0 <ℤ q → pos 0 <ℤ value_at p n s → (n *ℤ q) ≤ℤ (s *ℤ a) → pos 0 ≤ℤ chord p s n q a → pos 0 <ℤ value_at p a q
rises_from p s n q a some_s some_q start after up =
    above_by p s n q a (s *ℤ a -ℤ n *ℤ q) (chord p s n q a) some_s some_q start (value_at-difference p s n q a)
    (mul_nonneg (s *ℤ a -ℤ n *ℤ q) (chord p s n q a) (gap (s *ℤ a) (n *ℤ q) after) up)

falls_to : (p : Parabola) (s n q a : ℤ) → pos 0 <ℤ s → pos 0 <ℤ q → pos 0 <ℤ value_at p n s → (s *ℤ a) ≤ℤ (n *ℤ q) → chord p s n q a ≤ℤ pos 0 → pos 0 <ℤ value_at p a q
falls_to p s n q a some_s some_q start before down =
    above_by p s n q a (s *ℤ a -ℤ n *ℤ q) (chord p s n q a) some_s some_q start (value_at-difference p s n q a)
    (mul_nonpos (s *ℤ a -ℤ n *ℤ q) (chord p s n q a) (lack (s *ℤ a) (n *ℤ q) before) down)

module _ (p : Parabola) (f : Fractions) where
  -- it opens downward, and is above 0 at both fractions
  pub stays_above-concave : pos 0 <ℤ f.parts → p.bend ≤ℤ pos 0 → pos 0 <ℤ value_at p f.first f.parts → pos 0 <ℤ value_at p f.last f.parts → StaysAbove p f
  stays_above-concave some bends first last q a b =
      ⊎_elim
      (λ (l : chord p f.parts f.first q a <ℤ pos 0). falls_to p f.parts f.last q a some b.some last b.before (later l))
      (λ (l : pos 0 ≤ℤ chord p f.parts f.first q a). rises_from p f.parts f.first q a some b.some first b.after l)
      (cases_lt_ℤ (chord p f.parts f.first q a) (pos 0))
    where
      wider : (u v w : ℤ) → u ≤ℤ v → v ≤ℤ w → pos 0 ≤ℤ (w -ℤ u)
      wider u v w h k = omega (arith, ints)

      sum : (x y z : ℤ) → y ≡ x +ℤ z → x <ℤ pos 0 → z ≤ℤ pos 0 → y ≤ℤ pos 0
      sum x y z e h k = omega (arith, ints)

      later : chord p f.parts f.first q a <ℤ pos 0 → chord p f.parts f.last q a ≤ℤ pos 0
      later l = sum (chord p f.parts f.first q a) (chord p f.parts f.last q a) (p.bend *ℤ (f.last *ℤ q -ℤ f.first *ℤ q))
          (ring (p.slope ∷ p.bend ∷ f.parts ∷ f.first ∷ f.last ∷ q ∷ a ∷ [])
          ((num (pos 2) ⊗ (at 5 ⊗ (at 0 ⊗ at 2))) ⊕ (at 1 ⊗ ((at 2 ⊗ at 6) ⊕ (at 4 ⊗ at 5))))
          (((num (pos 2) ⊗ (at 5 ⊗ (at 0 ⊗ at 2))) ⊕ (at 1 ⊗ ((at 2 ⊗ at 6) ⊕ (at 3 ⊗ at 5)))) ⊕ (at 1 ⊗ ((at 4 ⊗ at 5) ⊖ (at 3 ⊗ at 5)))) refl)
          l
          (mul_opposite p.bend (f.last *ℤ q -ℤ f.first *ℤ q) bends (wider (f.first *ℤ q) (f.parts *ℤ a) (f.last *ℤ q) b.after b.before))

  -- it opens upward, and no longer falls at the first
  pub stays_above-rising : pos 0 <ℤ f.parts → pos 0 <ℤ p.bend → pos 0 <ℤ value_at p f.first f.parts → pos 0 ≤ℤ half_slope_at p f.first f.parts → StaysAbove p f
  stays_above-rising some bends first vertex q a b =
      rises_from p f.parts f.first q a some b.some first b.after
      (sum (chord p f.parts f.first q a) (pos 2 *ℤ (q *ℤ half_slope_at p f.first f.parts)) (p.bend *ℤ (f.parts *ℤ a -ℤ f.first *ℤ q))
      (ring (p.slope ∷ p.bend ∷ f.parts ∷ f.first ∷ q ∷ a ∷ [])
      ((num (pos 2) ⊗ (at 4 ⊗ (at 0 ⊗ at 2))) ⊕ (at 1 ⊗ ((at 2 ⊗ at 5) ⊕ (at 3 ⊗ at 4))))
      ((num (pos 2) ⊗ (at 4 ⊗ ((at 3 ⊗ at 1) ⊕ (at 0 ⊗ at 2)))) ⊕ (at 1 ⊗ ((at 2 ⊗ at 5) ⊖ (at 3 ⊗ at 4)))) refl)
      (mul_nonneg (pos 2) (q *ℤ half_slope_at p f.first f.parts) (omega (arith, ints)) (mul_nonneg q (half_slope_at p f.first f.parts) (below_some b.some) vertex))
      (mul_nonneg p.bend (f.parts *ℤ a -ℤ f.first *ℤ q) (below_some bends) (gap (f.parts *ℤ a) (f.first *ℤ q) b.after)))
    where
      sum : (x y z : ℤ) → x ≡ y +ℤ z → pos 0 ≤ℤ y → pos 0 ≤ℤ z → pos 0 ≤ℤ x
      sum x y z e h k = omega (arith, ints)

  -- it opens upward, and does not rise yet at the last
  pub stays_above-falling : pos 0 <ℤ f.parts → pos 0 <ℤ p.bend → pos 0 <ℤ value_at p f.last f.parts → half_slope_at p f.last f.parts ≤ℤ pos 0 → StaysAbove p f
  stays_above-falling some bends last vertex q a b =
      falls_to p f.parts f.last q a some b.some last b.before
      (sum (chord p f.parts f.last q a) (half_slope_at p f.last f.parts *ℤ (pos 2 *ℤ q)) (p.bend *ℤ (f.last *ℤ q -ℤ f.parts *ℤ a))
      (ring (p.slope ∷ p.bend ∷ f.parts ∷ f.last ∷ q ∷ a ∷ [])
      (((num (pos 2) ⊗ (at 4 ⊗ (at 0 ⊗ at 2))) ⊕ (at 1 ⊗ ((at 2 ⊗ at 5) ⊕ (at 3 ⊗ at 4)))) ⊕ (at 1 ⊗ ((at 3 ⊗ at 4) ⊖ (at 2 ⊗ at 5))))
      (((at 3 ⊗ at 1) ⊕ (at 0 ⊗ at 2)) ⊗ (num (pos 2) ⊗ at 4)) refl)
      (mul_opposite (half_slope_at p f.last f.parts) (pos 2 *ℤ q) vertex (mul_nonneg (pos 2) q (omega (arith, ints)) (below_some b.some)))
      (mul_nonneg p.bend (f.last *ℤ q -ℤ f.parts *ℤ a) (below_some bends) (gap (f.last *ℤ q) (f.parts *ℤ a) b.before)))
    where
      sum : (x y z : ℤ) → x +ℤ z ≡ y → y ≤ℤ pos 0 → pos 0 ≤ℤ z → x ≤ℤ pos 0
      sum x y z e h k = omega (arith, ints)

  -- it opens upward, and its least value is above 0
  pub stays_above-least : pos 0 <ℤ p.bend → (p.slope *ℤ p.slope) <ℤ (p.level *ℤ p.bend) → StaysAbove p f
  unfolding value_at
  stays_above-least bends least q a b =
      pos_from_mul_ℤ p.bend (p.level *ℤ (q *ℤ q) +ℤ pos 2 *ℤ p.slope *ℤ (a *ℤ q) +ℤ p.bend *ℤ (a *ℤ a)) bends
      (sum _ ((p.bend *ℤ a +ℤ p.slope *ℤ q) *ℤ (p.bend *ℤ a +ℤ p.slope *ℤ q)) ((p.level *ℤ p.bend -ℤ p.slope *ℤ p.slope) *ℤ (q *ℤ q))
      (ring (p.level ∷ p.slope ∷ p.bend ∷ q ∷ a ∷ [])
      (at 2 ⊗ ((at 0 ⊗ (at 3 ⊗ at 3)) ⊕ ((num (pos 2) ⊗ at 1) ⊗ (at 4 ⊗ at 3)) ⊕ (at 2 ⊗ (at 4 ⊗ at 4))))
      ((((at 2 ⊗ at 4) ⊕ (at 1 ⊗ at 3)) ⊗ ((at 2 ⊗ at 4) ⊕ (at 1 ⊗ at 3))) ⊕ (((at 0 ⊗ at 2) ⊖ (at 1 ⊗ at 1)) ⊗ (at 3 ⊗ at 3))) refl)
      (square_nonneg (p.bend *ℤ a +ℤ p.slope *ℤ q))
      (mul_pos_ℤ (p.level *ℤ p.bend -ℤ p.slope *ℤ p.slope) (q *ℤ q) (some_gap (p.slope *ℤ p.slope) (p.level *ℤ p.bend) least) (mul_pos_ℤ q q b.some b.some)))
    where
      some_gap : (u v : ℤ) → u <ℤ v → pos 0 <ℤ (v -ℤ u)
      some_gap u v h = omega (arith, ints)

      sum : (x y z : ℤ) → x ≡ y +ℤ z → pos 0 ≤ℤ y → pos 0 <ℤ z → pos 0 <ℤ x
      sum x y z e h k = omega (arith, ints)

  -- ---- where it comes down to 0

  pub comes_down-first : pos 0 <ℤ f.parts → f.first ≤ℤ f.last → value_at p f.first f.parts ≤ℤ pos 0 → ComesDown p f
  comes_down-first some order low = (
    f.parts,
    f.first,
    record {
      some = some;
      after = rw (*ℤ_comm f.parts f.first) (omega (arith, ints));
      before = rw (*ℤ_comm f.parts f.first, *ℤ_comm f.first f.parts, *ℤ_comm f.last f.parts) (mul_le_by f.parts f.first f.last (below_some some) order);
    },
    low,
  )

  pub comes_down-last : pos 0 <ℤ f.parts → f.first ≤ℤ f.last → value_at p f.last f.parts ≤ℤ pos 0 → ComesDown p f
  comes_down-last some order low = (
    f.parts,
    f.last,
    record {
      some = some;
      after = rw (*ℤ_comm f.first f.parts) (mul_le_by f.parts f.first f.last (below_some some) order);
      before = rw (*ℤ_comm f.parts f.last) (omega (arith, ints));
    },
    low,
  )

  -- at the least value
  pub comes_down-least : pos 0 <ℤ p.bend → half_slope_at p f.first f.parts ≤ℤ pos 0 → pos 0 ≤ℤ half_slope_at p f.last f.parts → (p.level *ℤ p.bend) ≤ℤ (p.slope *ℤ p.slope) → ComesDown p f
  unfolding value_at
  comes_down-least bends first last low = (
    p.bend,
    pos 0 -ℤ p.slope,
    record { some = bends; after = rw opposite (under (f.first *ℤ p.bend) (p.slope *ℤ f.parts) first); before = rw opposite (over (f.last *ℤ p.bend) (p.slope *ℤ f.parts) last) },
    rw least (mul_opposite (p.level *ℤ p.bend -ℤ p.slope *ℤ p.slope) p.bend (lack (p.level *ℤ p.bend) (p.slope *ℤ p.slope) low) (below_some bends)),
  )
    where
      opposite : f.parts *ℤ (pos 0 -ℤ p.slope) ≡ pos 0 -ℤ p.slope *ℤ f.parts
      opposite = ring (f.parts ∷ p.slope ∷ []) (at 0 ⊗ (num (pos 0) ⊖ at 1)) (num (pos 0) ⊖ (at 1 ⊗ at 0)) refl

      under : (x y : ℤ) → (x +ℤ y) ≤ℤ pos 0 → x ≤ℤ (pos 0 -ℤ y)
      under x y h = omega (arith, ints)

      over : (x y : ℤ) → pos 0 ≤ℤ (x +ℤ y) → (pos 0 -ℤ y) ≤ℤ x
      over x y h = omega (arith, ints)

      least : p.level *ℤ (p.bend *ℤ p.bend) +ℤ pos 2 *ℤ p.slope *ℤ ((pos 0 -ℤ p.slope) *ℤ p.bend) +ℤ p.bend *ℤ ((pos 0 -ℤ p.slope) *ℤ (pos 0 -ℤ p.slope)) ≡ (p.level *ℤ p.bend -ℤ p.slope *ℤ p.slope) *ℤ p.bend
      least = ring (p.level ∷ p.slope ∷ p.bend ∷ [])
          ((at 0 ⊗ (at 2 ⊗ at 2)) ⊕ ((num (pos 2) ⊗ at 1) ⊗ ((num (pos 0) ⊖ at 1) ⊗ at 2)) ⊕ (at 2 ⊗ ((num (pos 0) ⊖ at 1) ⊗ (num (pos 0) ⊖ at 1))))
          (((at 0 ⊗ at 2) ⊖ (at 1 ⊗ at 1)) ⊗ at 2) refl

  -- one or the other
  pub stays_or_comes_down : pos 0 <ℤ f.parts → f.first ≤ℤ f.last → StaysAbove p f ⊎ ComesDown p f
  stays_or_comes_down some order =
      ⊎_elim
      (λ (first : pos 0 <ℤ value_at p f.first f.parts).
      ⊎_elim
      (λ (last : pos 0 <ℤ value_at p f.last f.parts).
      ⊎_elim (λ (bends : pos 0 <ℤ p.bend). upward bends first last) (λ (bends : p.bend ≤ℤ pos 0). inl (stays_above-concave some bends first last)) (cases_lt_ℤ (pos 0) p.bend))
      (λ (last : value_at p f.last f.parts ≤ℤ pos 0). inr (comes_down-last some order last))
      (cases_lt_ℤ (pos 0) (value_at p f.last f.parts)))
      (λ (first : value_at p f.first f.parts ≤ℤ pos 0). inr (comes_down-first some order first))
      (cases_lt_ℤ (pos 0) (value_at p f.first f.parts))
    where
      between : pos 0 <ℤ p.bend → half_slope_at p f.first f.parts ≤ℤ pos 0 → pos 0 ≤ℤ half_slope_at p f.last f.parts → StaysAbove p f ⊎ ComesDown p f
      between bends falls rises =
          ⊎_elim
          (λ (l : (p.slope *ℤ p.slope) <ℤ (p.level *ℤ p.bend)). inl (stays_above-least bends l))
          (λ (l : (p.level *ℤ p.bend) ≤ℤ (p.slope *ℤ p.slope)). inr (comes_down-least bends falls rises l))
          (cases_lt_ℤ (p.slope *ℤ p.slope) (p.level *ℤ p.bend))

      upward : pos 0 <ℤ p.bend → pos 0 <ℤ value_at p f.first f.parts → pos 0 <ℤ value_at p f.last f.parts → StaysAbove p f ⊎ ComesDown p f
      upward bends first last =
          ⊎_elim
          (λ (falls : half_slope_at p f.first f.parts <ℤ pos 0).
          ⊎_elim
          (λ (l : half_slope_at p f.last f.parts <ℤ pos 0). inl (stays_above-falling some bends last (at_most l)))
          (λ (rises : pos 0 ≤ℤ half_slope_at p f.last f.parts). between bends (at_most falls) rises)
          (cases_lt_ℤ (half_slope_at p f.last f.parts) (pos 0)))
          (λ (l : pos 0 ≤ℤ half_slope_at p f.first f.parts). inl (stays_above-rising some bends first l))
          (cases_lt_ℤ (half_slope_at p f.first f.parts) (pos 0))
        where
          at_most : {x : ℤ} → x <ℤ pos 0 → x ≤ℤ pos 0
          at_most h = omega (arith, ints)
