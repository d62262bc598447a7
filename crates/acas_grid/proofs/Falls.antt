-- The first fall of a list.
use Rattle.std.proofs.Common.{◌≡◌, ℕ, zero, suc, ◌+◌, ◌<◌, ◌≤◌, ⊎_elim, Bool, true, false, if◌then◌else◌, List, [], ◌∷◌, length, drop, ℤ, pos, int_lt, ◌<ℤ◌, ◌≤ℤ◌, Option, Some, None, refl, ap, subst, arith}
use Rattle.std.proofs.lemmas.Bool.{cases_lt}
use Rattle.std.proofs.lemmas.Int.{ints}
use Rattle.std.proofs.lemmas.List.{drop_more, drop_all}
use Rattle.acas_spec.specs.Axis.{Rises, place_value}
use Rattle.acas_grid.specs.Axis.{IsFirstFall, first_fall}

-- the last value of a list falls after none
pub fall_none : (zs : List ℤ) (k : ℕ) → length zs ≡ k + 1 → first_fall k (drop k zs) ≡ None
fall_none zs k h = rw (drop_more zs k (pos 0) (omega arith), drop_all (k + 1) zs (omega arith)) refl

below_from_test : (a b : ℤ) → int_lt a b ≡ true → a <ℤ b
below_from_test a b h = grind (arith, ints)

not_above_from_test : (a b : ℤ) → int_lt a b ≡ false → b ≤ℤ a
not_above_from_test a b h = grind (arith, ints)

-- what the answer says of the list, where it begins at a place
abbrev pub IsFall : List ℤ → ℕ → Option ℕ → Type 0
IsFall values start None = Rises values
IsFall values start (Some place) = (before : ℕ) × (place ≡ start + before + 1) × IsFirstFall values before

pub fall_is : (values : List ℤ) (start : ℕ) → IsFall values start (first_fall start values)
unfolding Rises
fall_is [] start = λ place h. absurd (omega arith)
fall_is (a ∷ []) start = λ place h. absurd (omega arith)
fall_is (a ∷ b ∷ rest) start = step (fall_is (b ∷ rest) (start + 1)) (int_lt a b) refl
  where
    step : IsFall (b ∷ rest) (start + 1) (first_fall (start + 1) (b ∷ rest)) → (rises : Bool) → int_lt a b ≡ rises → IsFall (a ∷ b ∷ rest) start (if rises then first_fall (start + 1) (b ∷ rest) else Some (start + 1))
    step rest_is false e = (0, omega arith, record { inside = omega arith; falls = not_above_from_test a b e; rising = λ place h. absurd (omega arith) })
    step rest_is true e = later (first_fall (start + 1) (b ∷ rest)) rest_is
      where
        on : (place : ℕ) → ((p : ℕ) → place ≡ suc p → place_value (b ∷ rest) p <ℤ place_value (b ∷ rest) (p + 1)) → place_value (a ∷ b ∷ rest) place <ℤ place_value (a ∷ b ∷ rest) (place + 1)
        on zero up = below_from_test a b e
        on (suc p) up = let next : suc (p + 1) ≡ suc p + 1 = omega arith in subst (λ (n : ℕ). place_value (b ∷ rest) p <ℤ place_value (a ∷ b ∷ rest) n) next (up p refl)

        later : (found : Option ℕ) → IsFall (b ∷ rest) (start + 1) found → IsFall (a ∷ b ∷ rest) start found
        later None rising = λ place h. on place (λ p q. rising p (omega arith))
        later (Some place) fall =
            let next : suc (fall.0 + 1) ≡ suc fall.0 + 1 = omega arith in
            let here = fall.1 in
            let inside = fall.2.inside in (
              suc fall.0,
              omega arith,
              record {
                inside = omega arith;
                falls = subst (λ (n : ℕ). place_value (a ∷ b ∷ rest) n ≤ℤ place_value (b ∷ rest) fall.0) next fall.2.falls;
                rising = λ place h. on place (λ p q. fall.2.rising p (omega arith));
              },
            )

-- ---- what the first fall of a list is

module _ (values : List ℤ) where
  never_both : (before : ℕ) → IsFirstFall values before → Rises values → ⊥
  unfolding Rises
  never_both before fall rising = let up = rising before fall.inside in let down = fall.falls in omega (arith, ints)

  not_later : (n k : ℕ) → IsFirstFall values n → IsFirstFall values k → n ≤ k
  not_later n k f g = ⊎_elim
      (λ (l : k < n). let up = f.rising k l in let down = g.falls in absurd (omega (arith, ints)))
      (λ (l : n ≤ k). l)
      (cases_lt k n)

  pub found_is_fall : (before : ℕ) → first_fall 0 values ≡ Some (before + 1) → IsFirstFall values before
  found_is_fall before e =
      let fall = rw e at (fall_is values 0) in
      let same : fall.0 ≡ before = let here = fall.1 in omega arith in
      subst (IsFirstFall values) same fall.2

  pub fall_is_found : (before : ℕ) → IsFirstFall values before → first_fall 0 values ≡ Some (before + 1)
  fall_is_found before f = by (first_fall 0 values) (fall_is values 0)
    where
      by : (found : Option ℕ) → IsFall values 0 found → found ≡ Some (before + 1)
      by None rising = absurd (never_both before f rising)
      by (Some place) fall =
          let here = fall.1 in
          let most = not_later fall.0 before fall.2 f in
          let least = not_later before fall.0 f fall.2 in
          ap (λ (n : ℕ). Some n) (omega arith)

  pub none_is_rising : first_fall 0 values ≡ None → Rises values
  none_is_rising e = rw e at (fall_is values 0)

  pub rising_is_none : Rises values → first_fall 0 values ≡ None
  rising_is_none rising = by (first_fall 0 values) (fall_is values 0)
    where
      by : (found : Option ℕ) → IsFall values 0 found → found ≡ None
      by None up = refl
      by (Some place) fall = absurd (never_both fall.0 fall.2 rising)
