-- An axis is made of numbers that rise, and of no others.
use Rattle.std.proofs.Common.{◌≡◌, ℕ, zero, suc, ◌+◌, ◌<◌, ◌≤◌, Bool, true, false, T, List, [], ◌∷◌, length, ℤ, ◌<ℤ◌, int_lt, nat_lt, Option, Some, None, Result, Ok, Err, refl, inl, inr, arith}
use Rattle.std.proofs.lemmas.Bool.{cases_Bool, false≢true, ltb-false, le-ltb}
use Rattle.acas_units.specs.declared.limits.TheConstants.{LEAST_VERTICES, GREATEST_VERTICES}
use Rattle.acas_spec.specs.Axis.{IsAxis, Rises, place_value}
use Rattle.acas_spec.proofs.Each.{same_ok}
use Rattle.acas_grid.specs.Axis.{axis_of, first_fall, rising_or_fault}
use Rattle.acas_grid.specs.declared.axis.AxisFault.{AxisFault}
use Rattle.acas_grid.specs.declared.axis.AxisFault.TheVariants.{TooShort, TooLong, NotRising}

is_true : (b : Bool) → T b → b ≡ true
is_true true h = refl
is_true false h = absurd h

holds_true : (b : Bool) → b ≡ true → T b
holds_true true e = tt
holds_true false e = absurd (false≢true e)

some_none : (k : ℕ) → ◌≡◌ {A = Option ℕ} (Some k) None → ⊥
some_none k e = cc

suc_plus : (k : ℕ) → suc k + 1 ≡ suc (k + 1)
suc_plus k = omega arith

falls_nowhere : (place : ℕ) (zs : List ℤ) → first_fall place zs ≡ None → (k : ℕ) → k + 1 < length zs → place_value zs k <ℤ place_value zs (k + 1)
falls_nowhere place [] is k within = absurd (omega (arith, within))
falls_nowhere place (a ∷ []) is k within = absurd (omega (arith, within))
falls_nowhere place (a ∷ b ∷ rest) is zero within =
    elim (cases_Bool (int_lt a b)) [
      | inl above ↦ record { lt = holds_true (int_lt a b) above }
      | inr falls ↦ absurd (some_none (place + 1) (rw falls at is))
    ]
falls_nowhere place (a ∷ b ∷ rest) is (suc k) within =
    elim (cases_Bool (int_lt a b)) [
      | inl above ↦ rw (suc_plus k) (falls_nowhere (place + 1) (b ∷ rest) (rw above at is) k (omega (arith, within)))
      | inr falls ↦ absurd (some_none (place + 1) (rw falls at is))
    ]

rises_falls_nowhere : (place : ℕ) (zs : List ℤ) → ((k : ℕ) → k + 1 < length zs → place_value zs k <ℤ place_value zs (k + 1)) → first_fall place zs ≡ None
rises_falls_nowhere place [] h = refl
rises_falls_nowhere place (a ∷ []) h = refl
rises_falls_nowhere place (a ∷ b ∷ rest) h =
    let above : int_lt a b ≡ true = is_true (int_lt a b) (h 0 (omega arith)).lt in
    rw above (rises_falls_nowhere (place + 1) (b ∷ rest) (λ k within. rw (suc_plus k) at (h (suc k) (omega (arith, within)))))

refused : (f : AxisFault) (zs : List ℤ) → ◌≡◌ {A = Result (List ℤ) AxisFault} (Err f) (Ok zs) → ⊥
refused f zs e = cc

by_fall : (values axis : List ℤ) (fall : Option ℕ) → first_fall 0 values ≡ fall → rising_or_fault values fall ≡ Ok axis → LEAST_VERTICES ≤ length values → length values ≤ GREATEST_VERTICES → (values ≡ axis) × IsAxis values
unfolding Rises
by_fall values axis None none given low high = (same_ok {E = AxisFault} values axis given, record { at_least = low; at_most = high; rising = falls_nowhere 0 values none })
by_fall values axis (Some place) some given low high = absurd (refused (NotRising place) axis given)

-- what is made into an axis is one
pub axis_is : (values axis : List ℤ) → axis_of values ≡ Ok axis → (values ≡ axis) × IsAxis values
unfolding axis_of
axis_is values axis is =
    elim (cases_Bool (nat_lt (length values) LEAST_VERTICES)) [
      | inl short ↦ absurd (refused TooShort axis (rw short at is))
      | inr enough ↦ elim (cases_Bool (nat_lt GREATEST_VERTICES (length values))) [
        | inl long ↦ absurd (refused TooLong axis (rw (enough, long) at is))
        | inr few ↦ by_fall values axis (first_fall 0 values) refl (rw (enough, few) at is) (ltb-false _ _ enough) (ltb-false _ _ few)
      ]
    ]

-- an axis is made into itself
pub is_axis : (axis : List ℤ) → IsAxis axis → axis_of axis ≡ Ok axis
unfolding axis_of Rises
is_axis axis h = rw (le-ltb _ _ h.at_least, le-ltb _ _ h.at_most, rises_falls_nowhere 0 axis h.rising) refl
