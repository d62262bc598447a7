-- The least of a row of numbers that falls on once it falls, but for one place at which it may turn: it is at an end or there.
use Rattle.std.proofs.Common.{◌≡◌, ℕ, zero, suc, ◌+◌, ◌-◌, ◌<◌, ◌≤◌, ◌⊎◌, inl, inr, ⊎_elim, arith, ℤ, ◌≤ℤ◌, ◌<ℤ◌}
use Rattle.std.proofs.lemmas.Int.{ints}
use Rattle.std.proofs.lemmas.Bool.{cases_lt}
use Rattle.acas_frac.proofs.Orders.{cases_lt_ℤ}

-- the least number from one place to another is at the place, and no earlier one is as low
pub record IsFirstLeast (f : ℕ → ℤ) (from to best : ℕ) : Type 0 where
  pub after : from ≤ best
  pub before : best ≤ to
  pub least : (t : ℕ) → from ≤ t → t ≤ to → f best ≤ℤ f t
  pub first : (t : ℕ) → from ≤ t → t < best → f best <ℤ f t

-- the first of three places, in their order, at which the number is least
pub data IsFirstOf (f : ℕ → ℤ) (from turn to : ℕ) : ℕ → Type 0 where
  at_from : f from ≤ℤ f turn → f from ≤ℤ f to → IsFirstOf f from turn to from
  at_turn : f turn <ℤ f from → f turn ≤ℤ f to → IsFirstOf f from turn to turn
  at_to : f to <ℤ f from → f to <ℤ f turn → IsFirstOf f from turn to to

-- the row falls on, but where it turns
abbrev pub FallsOn : (ℕ → ℤ) → ℕ → ℕ → ℕ → Type 0
FallsOn f from to turn = (i : ℕ) → from ≤ i → i + 2 ≤ to → (i + 1 ≡ turn → ⊥) → f (i + 1) <ℤ f i → f (i + 2) <ℤ f (i + 1)

module _ (f : ℕ → ℤ) (from to turn : ℕ) (on : FallsOn f from to turn) where
  -- from a fall at i on the row falls until the turn or the end
  falls : (i n : ℕ) → from ≤ i → i + 1 + n ≤ to → (turn ≤ i) ⊎ (i + 1 + n ≤ turn) → f (i + 1) <ℤ f i → f (i + 1 + n) <ℤ f (i + n)
  falls i zero a b o h = let e : i + 1 + 0 ≡ i + 1 = omega arith in let e' : i + 0 ≡ i = omega arith in rw (e, e') h
  falls i (suc n) a b o h =
      let before = falls i n a (omega arith) (⊎_elim (λ l. inl l) (λ l. inr (omega arith)) o) h in
      let e : i + 1 + suc n ≡ (i + n) + 2 = omega arith in
      let e' : i + suc n ≡ (i + n) + 1 = omega arith in
      let e'' : i + 1 + n ≡ (i + n) + 1 = omega arith in
      rw (e, e') (on (i + n) (omega arith) (omega arith) (λ m. ⊎_elim (λ l. omega (arith, l, m)) (λ l. omega (arith, l, m)) o) (rw e'' at before))

  -- so it is lower at the end than anywhere after the fall
  lower : (i t n : ℕ) → from ≤ i → i < t → t + 1 + n ≤ to → (turn ≤ i) ⊎ (t + 1 + n ≤ turn) → f (i + 1) <ℤ f i → f (t + 1 + n) <ℤ f t
  lower i t zero a j b o h =
      let s = falls i (t - i) a (omega arith) (⊎_elim (λ l. inl l) (λ l. inr (omega arith)) o) h in
      let e : i + 1 + (t - i) ≡ t + 1 + 0 = omega arith in
      let e' : i + (t - i) ≡ t = omega arith in
      rw (e, e') at s
  lower i t (suc n) a j b o h =
      let before = lower i t n a j (omega arith) (⊎_elim (λ l. inl l) (λ l. inr (omega arith)) o) h in
      let s = falls i ((t + 1 + n) - i) a (omega arith) (⊎_elim (λ l. inl l) (λ l. inr (omega arith)) o) h in
      let e : i + 1 + ((t + 1 + n) - i) ≡ t + 1 + suc n = omega arith in
      let e' : i + ((t + 1 + n) - i) ≡ t + 1 + n = omega arith in
      let s' = rw (e, e') at s in
      omega (arith, ints, before, s')

  -- either the row has not come below its start, or it has fallen
  fallen : (p n : ℕ) → (f p ≤ℤ f (p + n)) ⊎ ((i : ℕ) × (p ≤ i) × (i < p + n) × (f (i + 1) <ℤ f i))
  fallen p zero = let e : p + 0 ≡ p = omega arith in rw e (inl (omega (arith, ints)))
  fallen p (suc n) = ⊎_elim
      (λ h. let e : p + suc n ≡ (p + n) + 1 = omega arith in rw e (⊎_elim
      (λ l. inr (p + n, omega arith, omega arith, l))
      (λ l. inl (omega (arith, ints, h, l)))
      (cases_lt_ℤ (f ((p + n) + 1)) (f (p + n)))))
      (λ d. inr (d.0, d.1, omega (arith, d.2), d.3))
      (fallen p n)

  -- between two ends with no turn between them
  ends : (p t e : ℕ) → from ≤ p → p ≤ t → t ≤ e → e ≤ to → (turn ≤ p) ⊎ (e ≤ turn) → (f p ≤ℤ f t) ⊎ ((f e ≤ℤ f t) × (t < e → f e <ℤ f t))
  ends p t e a b c d o = ⊎_elim
      (λ h. let s : p + (t - p) ≡ t = omega arith in inl (rw s at h))
      (λ h. inr (⊎_elim
      (λ (l : t < e). let s : f e <ℤ f t = strict h l in (omega (arith, ints, s), λ _. s))
      (λ (l : e ≤ t). let s : t ≡ e = omega (arith, l, c) in (rw s (omega (arith, ints)), λ (m : t < e). absurd (omega (arith, l, m))))
      (cases_lt t e)))
      (fallen p (t - p))
    where
      strict : ((i : ℕ) × (p ≤ i) × (i < p + (t - p)) × (f (i + 1) <ℤ f i)) → t < e → f e <ℤ f t
      strict h l =
          let s = lower h.0 t (e - (t + 1)) (omega (arith, h.1, a)) (omega (arith, h.2, b)) (omega (arith, l, d)) (⊎_elim (λ m. inl (omega (arith, m, h.1))) (λ m. inr (omega (arith, m, l))) o) h.3 in
          let n : t + 1 + (e - (t + 1)) ≡ e = omega (arith, l) in
          rw n at s

  below_from : (t best : ℕ) → from ≤ turn → turn ≤ to → from ≤ t → t ≤ to → f best ≤ℤ f from → f best ≤ℤ f turn → f best ≤ℤ f to → f best ≤ℤ f t
  below_from t best a b c d x y z = ⊎_elim
      (λ (l : t < turn). ⊎_elim (λ h. omega (arith, ints, h, x)) (λ h. let h0 = h.0 in omega (arith, ints, h0, y)) (ends from t turn (omega arith) c (omega (arith, l)) b (inr (omega arith))))
      (λ (l : turn ≤ t). ⊎_elim (λ h. omega (arith, ints, h, y)) (λ h. let h0 = h.0 in omega (arith, ints, h0, z)) (ends turn t to a l d (omega arith) (inl (omega arith))))
      (cases_lt t turn)

  pub first_least : (best : ℕ) → from ≤ turn → turn ≤ to → IsFirstOf f from turn to best → IsFirstLeast f from to best
  first_least best a b (at_from x y) = record {
    after = omega arith;
    before = omega arith;
    least = λ t c d. below_from t from a b c d (omega (arith, ints)) x y;
    first = λ t c d. absurd (omega (arith, c, d));
  }
  first_least best a b (at_turn x y) = record {
    after = a;
    before = b;
    least = λ t c d. below_from t turn a b c d (omega (arith, ints, x)) (omega (arith, ints)) y;
    first = λ t c d. ⊎_elim (λ h. omega (arith, ints, h, x)) (λ h. h.1 d) (ends from t turn (omega arith) c (omega (arith, d)) b (inr (omega arith)));
  }
  first_least best a b (at_to x y) = record {
    after = omega arith;
    before = omega arith;
    least = λ t c d. below_from t to a b c d (omega (arith, ints, x)) (omega (arith, ints, y)) (omega (arith, ints));
    first = λ t c d. ⊎_elim
        (λ (l : t < turn). ⊎_elim (λ h. omega (arith, ints, h, x)) (λ h. let h0 = h.0 in omega (arith, ints, h0, y)) (ends from t turn (omega arith) c (omega (arith, l)) b (inr (omega arith))))
        (λ (l : turn ≤ t). ⊎_elim (λ h. omega (arith, ints, h, y)) (λ h. h.1 d) (ends turn t to a l (omega (arith, d)) (omega arith) (inl (omega arith))))
        (cases_lt t turn);
  }
