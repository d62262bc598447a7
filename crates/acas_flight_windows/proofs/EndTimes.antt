-- From its aim up a curve is nearest the intruder at an end of the window.
use Rattle.std.proofs.Common.{◌≡◌, ℕ, ◌*◌, ◌<◌, ◌≤◌, ◌⊎◌, inl, inr, ⊎_elim, refl, sym, ap, ◌∙◌, arith, [], ◌∷◌, ℤ, pos, ◌+ℤ◌, ◌-ℤ◌, ◌*ℤ◌, ◌≤ℤ◌, ◌<ℤ◌, mul-pos, mul-le-mul_right}
use native.Mathlib.Nat.{mul-lt-mul_of_pos_left}
use Rattle.std.proofs.lemmas.Int.{ints}
use Rattle.std.specs.Int.Signed.{≤ℤ_refl, <ℤ-≤ℤ_trans}
use Rattle.acas_frac.proofs.SignedProducts.{le-trans_ℤ, mul-le_ℤ, mul-lt_ℤ, le-from_mul_ℤ, lt-from_mul_ℤ}
use Rattle.acas_frac.proofs.IntRing.{at, ◌⊕◌, ◌⊗◌, ring}
use Rattle.acas_frac.proofs.Orders.{by_above, le_of_lt_ℤ}
use Rattle.acas_flight.proofs.Holding.{held-none}
use Rattle.acas_flight_lemmas.proofs.Tangents.{gap, least_at_an_end, least_at_an_end_strict}
use Rattle.acas_flight_windows.proofs.Borders.{le_by, lt_by, lift_le, lift_lt, border_gap-gap}
use Rattle.acas_flight.specs.Curves.{approach, held}
use Rattle.acas_flight.specs.Window.{Times, IsDuring}
use Rattle.acas_flight.specs.Values.{IsAtMost}
use Rattle.acas_flight.specs.Border.{border_of, border_gap, IsGapAt, IsLeastGap}
use Rattle.acas_frac.specs.Fraction.{Fraction}

-- two gaps over one denominator, by their values
gaps_le : (c : ℕ) (a m b n : ℤ) (d e : ℕ) → 0 < d → 0 < e → m *ℤ pos c ≡ a *ℤ pos d → n *ℤ pos c ≡ b *ℤ pos e → (m *ℤ pos e) ≤ℤ (n *ℤ pos d) → a ≤ℤ b
gaps_le c a m b n d e pd pe f g h =
    le-from_mul_ℤ (d * e) a b (mul-pos pd pe)
    (rw (
      ring (pos d ∷ pos e ∷ a ∷ []) ((at 0 ⊗ at 1) ⊗ at 2) ((at 2 ⊗ at 0) ⊗ at 1) refl ∙ ap (λ z. z *ℤ pos e) (sym f) ∙ ring (m ∷ pos c ∷ pos e ∷ []) ((at 0 ⊗ at 1) ⊗ at 2) (at 1 ⊗ (at 0 ⊗ at 2)) refl,
      ring (pos d ∷ pos e ∷ b ∷ []) ((at 0 ⊗ at 1) ⊗ at 2) ((at 2 ⊗ at 1) ⊗ at 0) refl ∙ ap (λ z. z *ℤ pos d) (sym g) ∙ ring (n ∷ pos c ∷ pos d ∷ []) ((at 0 ⊗ at 1) ⊗ at 2) (at 1 ⊗ (at 0 ⊗ at 2)) refl,
    )
    (mul-le_ℤ c (m *ℤ pos e) (n *ℤ pos d) h))

gaps_lt : (c : ℕ) (a m b n : ℤ) (d e : ℕ) → 0 < c → m *ℤ pos c ≡ a *ℤ pos d → n *ℤ pos c ≡ b *ℤ pos e → (m *ℤ pos e) <ℤ (n *ℤ pos d) → a <ℤ b
gaps_lt c a m b n d e pc f g h =
    lt-from_mul_ℤ (d * e) a b
    (rw (
      ring (pos d ∷ pos e ∷ a ∷ []) ((at 0 ⊗ at 1) ⊗ at 2) ((at 2 ⊗ at 0) ⊗ at 1) refl ∙ ap (λ z. z *ℤ pos e) (sym f) ∙ ring (m ∷ pos c ∷ pos e ∷ []) ((at 0 ⊗ at 1) ⊗ at 2) (at 1 ⊗ (at 0 ⊗ at 2)) refl,
      ring (pos d ∷ pos e ∷ b ∷ []) ((at 0 ⊗ at 1) ⊗ at 2) ((at 2 ⊗ at 1) ⊗ at 0) refl ∙ ap (λ z. z *ℤ pos d) (sym g) ∙ ring (n ∷ pos c ∷ pos d ∷ []) ((at 0 ⊗ at 1) ⊗ at 2) (at 1 ⊗ (at 0 ⊗ at 2)) refl,
    )
    (mul-lt_ℤ c (m *ℤ pos e) (n *ℤ pos d) pc h))

module _ (k : ℤ) (u b : ℕ) (h w : ℤ) (q : ℕ) where
  gap_high : (t : ℕ) → border_gap (border_of (k +ℤ pos u) k b 0 h w) q t
      ≡ gap (approach ((k *ℤ pos (q * q)) +ℤ pos (u * (q * q))) (k *ℤ pos (q * q)) (b * q) t) (w *ℤ pos (q * q)) (b * q) t -ℤ (pos (b * q) *ℤ ((h *ℤ pos q) *ℤ pos (q * q)))
  gap_high t =
      border_gap-gap (border_of (k +ℤ pos u) k b 0 h w) q t
      ∙ ap (λ z. gap z (w *ℤ pos (q * q)) (b * q) t -ℤ (pos (b * q) *ℤ ((h *ℤ pos q) *ℤ pos (q * q))))
      (ap (λ n. held ((k +ℤ pos u) *ℤ pos (q * q)) (k *ℤ pos (q * q)) (b * q) n t) none
      ∙ held-none ((k +ℤ pos u) *ℤ pos (q * q)) (k *ℤ pos (q * q)) (b * q) t
      ∙ ap (λ v. approach v (k *ℤ pos (q * q)) (b * q) t) (ring (k ∷ pos u ∷ pos q ∷ []) ((at 0 ⊕ at 1) ⊗ (at 2 ⊗ at 2)) ((at 0 ⊗ (at 2 ⊗ at 2)) ⊕ (at 1 ⊗ (at 2 ⊗ at 2))) refl))
    where
      none : 0 * q ≡ 0
      none = omega arith

  at_ends : (from t to : ℕ) → from ≤ t → t ≤ to →
      (border_gap (border_of (k +ℤ pos u) k b 0 h w) q from ≤ℤ border_gap (border_of (k +ℤ pos u) k b 0 h w) q t)
      ⊎ (border_gap (border_of (k +ℤ pos u) k b 0 h w) q to ≤ℤ border_gap (border_of (k +ℤ pos u) k b 0 h w) q t)
  at_ends from t to i j =
      ⊎_elim
      (λ l. inl (le_by _ _ _ _ (pos (b * q) *ℤ ((h *ℤ pos q) *ℤ pos (q * q))) (gap_high from) (gap_high t) l))
      (λ l. inr (le_by _ _ _ _ (pos (b * q) *ℤ ((h *ℤ pos q) *ℤ pos (q * q))) (gap_high to) (gap_high t) l))
      (least_at_an_end (k *ℤ pos (q * q)) (u * (q * q)) (b * q) (w *ℤ pos (q * q)) from t to i j)

  before_end : 0 < b * q → (from t to : ℕ) → from ≤ t → t < to →
      (border_gap (border_of (k +ℤ pos u) k b 0 h w) q from ≤ℤ border_gap (border_of (k +ℤ pos u) k b 0 h w) q t)
      ⊎ (border_gap (border_of (k +ℤ pos u) k b 0 h w) q to <ℤ border_gap (border_of (k +ℤ pos u) k b 0 h w) q t)
  before_end p from t to i j =
      ⊎_elim
      (λ l. inl (le_by _ _ _ _ (pos (b * q) *ℤ ((h *ℤ pos q) *ℤ pos (q * q))) (gap_high from) (gap_high t) l))
      (λ l. inr (lt_by _ _ _ _ (pos (b * q) *ℤ ((h *ℤ pos q) *ℤ pos (q * q))) (gap_high to) (gap_high t) l))
      (least_at_an_end_strict (k *ℤ pos (q * q)) (u * (q * q)) (b * q) (w *ℤ pos (q * q)) from t to p i j)

-- the two ends over a common denominator, and a time of the window
module _ (v k : ℤ) (b : ℕ) (h w : ℤ) (win : Times) (y z : Fraction) (m n : ℕ) (o : k ≤ℤ v) (sb : 0 < b)
    (em : win.from.num ≡ pos m) (en : win.to.num ≡ pos n) (sf : 0 < win.from.den) (st : 0 < win.to.den) (sy : 0 < y.den) (sz : 0 < z.den)
    (valf : IsGapAt (border_of v k b 0 h w) win.from y) (valt : IsGapAt (border_of v k b 0 h w) win.to z) (ends : IsAtMost win.from win.to) where
  abbrev F : ℕ
  F = win.from.den

  abbrev T : ℕ
  T = win.to.den

  abbrev C : ℕ → ℕ
  C q = q * q * q * (b * q)

  first_at : (q : ℕ) → 0 < q → y.num *ℤ pos (C (q * (F * T))) ≡ border_gap (border_of v k b 0 h w) (q * (F * T)) (m * q * T) *ℤ pos y.den
  first_at q p = valf.over (q * (F * T)) (m * q * T) (mul-pos p (mul-pos sf st))
      (ring (pos m ∷ pos q ∷ pos T ∷ pos F ∷ []) (((at 0 ⊗ at 1) ⊗ at 2) ⊗ at 3) (at 0 ⊗ (at 1 ⊗ (at 3 ⊗ at 2))) refl ∙ ap (λ c. c *ℤ pos (q * (F * T))) (sym em))

  last_at : (q : ℕ) → 0 < q → z.num *ℤ pos (C (q * (F * T))) ≡ border_gap (border_of v k b 0 h w) (q * (F * T)) (n * q * F) *ℤ pos z.den
  last_at q p = valt.over (q * (F * T)) (n * q * F) (mul-pos p (mul-pos sf st))
      (ring (pos n ∷ pos q ∷ pos F ∷ pos T ∷ []) (((at 0 ⊗ at 1) ⊗ at 2) ⊗ at 3) (at 0 ⊗ (at 1 ⊗ (at 2 ⊗ at 3))) refl ∙ ap (λ c. c *ℤ pos (q * (F * T))) (sym en))

  from_first : (q t : ℕ) → IsDuring q win t → m * q * T ≤ t * (F * T)
  from_first q t i = let a = rw em at i.0 in let c : m * q ≤ t * F = omega (arith, ints) in omega (arith, mul-le-mul_right T c)

  to_last : (q t : ℕ) → IsDuring q win t → t * (F * T) ≤ n * q * F
  to_last q t i = let a = rw en at i.1 in let c : t * T ≤ n * q = omega (arith, ints) in omega (arith, mul-le-mul_right F c)

  least_of : (q t : ℕ) → IsDuring q win t →
      (border_gap (border_of v k b 0 h w) (q * (F * T)) (m * q * T) ≤ℤ border_gap (border_of v k b 0 h w) (q * (F * T)) (t * (F * T)))
      ⊎ (border_gap (border_of v k b 0 h w) (q * (F * T)) (n * q * F) ≤ℤ border_gap (border_of v k b 0 h w) (q * (F * T)) (t * (F * T)))
  least_of q t i = by_above k v o (λ u e. rw e (at_ends k u b h w (q * (F * T)) (m * q * T) (t * (F * T)) (n * q * F) (from_first q t i) (to_last q t i)))

  pub first_least : (y.num *ℤ pos z.den) ≤ℤ (z.num *ℤ pos y.den) → IsLeastGap (border_of v k b 0 h w) win win.from y
  first_least l = record {
    after = ≤ℤ_refl (win.from.num *ℤ pos win.from.den);
    before = ends;
    value = valf;
    least = λ q t p i. lift_le (border_of v k b 0 h w) win.from y valf m em q t T p (mul-pos sf st)
        (⊎_elim (λ a. a)
        (λ a. le-trans_ℤ _ _ _ (gaps_le (C (q * (F * T))) _ y.num _ z.num y.den z.den sy sz (first_at q p) (last_at q p) l) a)
        (least_of q t i));
    earliest = λ q t p i j. let a = rw em at i.0 in let c = rw em at j in absurd (let d : m * q ≤ t * F = omega (arith, ints) in let d' : t * F < m * q = omega (arith, ints) in omega arith);
  }

  -- the last end, where its gap is less than the first's
  last_below : (z.num *ℤ pos y.den) <ℤ (y.num *ℤ pos z.den) → (q : ℕ) → 0 < q → border_gap (border_of v k b 0 h w) (q * (F * T)) (n * q * F) <ℤ border_gap (border_of v k b 0 h w) (q * (F * T)) (m * q * T)
  last_below l q p = gaps_lt (C (q * (F * T))) _ z.num _ y.num z.den y.den (mul-pos (mul-pos (mul-pos some some) some) (mul-pos sb some)) (last_at q p) (first_at q p) l
    where
      some : 0 < q * (F * T)
      some = mul-pos p (mul-pos sf st)

  turned : F * T ≡ T * F
  turned = omega arith

  pub last_least : (z.num *ℤ pos y.den) <ℤ (y.num *ℤ pos z.den) → IsLeastGap (border_of v k b 0 h w) win win.to z
  last_least l = record {
    after = ends;
    before = ≤ℤ_refl (win.to.num *ℤ pos win.to.den);
    value = valt;
    least = λ q t p i. lift_le (border_of v k b 0 h w) win.to z valt n en q t F p (mul-pos st sf)
        (rw (← turned)
        (⊎_elim
        (λ a. le_of_lt_ℤ _ _ (<ℤ-≤ℤ_trans (last_below l q p) a))
        (λ a. a)
        (least_of q t i)));
    earliest = λ q t p i j. lift_lt (border_of v k b 0 h w) win.to z valt n en q t F p (mul-pos st sf) sz
        (rw (← turned)
        (⊎_elim
        (λ a. <ℤ-≤ℤ_trans (last_below l q p) a)
        (λ a. a)
        (strict q t p i (early q t j))));
  }
    where
      early : (q t : ℕ) → pos (t * T) <ℤ (win.to.num *ℤ pos q) → t * (F * T) < n * q * F
      early q t j = let c = rw en at j in let d : t * T < n * q = omega (arith, ints) in omega (arith, mul-lt-mul_of_pos_left {m = t * T} {n = n * q} {k = F} d sf)

      strict : (q t : ℕ) → 0 < q → IsDuring q win t → t * (F * T) < n * q * F →
          (border_gap (border_of v k b 0 h w) (q * (F * T)) (m * q * T) ≤ℤ border_gap (border_of v k b 0 h w) (q * (F * T)) (t * (F * T)))
          ⊎ (border_gap (border_of v k b 0 h w) (q * (F * T)) (n * q * F) <ℤ border_gap (border_of v k b 0 h w) (q * (F * T)) (t * (F * T)))
      strict q t p i j = by_above k v o (λ u e. rw e (before_end k u b h w (q * (F * T)) (mul-pos sb (mul-pos p (mul-pos sf st))) (m * q * T) (t * (F * T)) (n * q * F) (from_first q t i) j))
