-- Contact in a second, at its ends and as that of a flight.
use Rattle.std.proofs.Common.{◌≡◌, ℕ, ◌*◌, ◌<◌, ◌≤◌, [], ◌∷◌, refl, arith, mul-le-mul_right, ℤ, pos, ◌-ℤ◌, ◌*ℤ◌, unsigned_abs}
use Rattle.std.specs.Prelude.{◌↔◌}
use Rattle.std.proofs.lemmas.Int.{ints, unsigned_abs-mul}
use native.Mathlib.Nat.{le_of_mul-le-mul_right}
use Rattle.acas_spec.specs.Model.{ModelData}
use Rattle.acas_flight.specs.Contact.{IsInContact, vertical_separation}
use Rattle.acas_frac.proofs.IntRing.{ring, at, num, ◌⊕◌, ◌⊖◌, ◌⊗◌}
use Rattle.acas_replay.specs.Contact.{IsContactAt, separation}
use Rattle.acas_replay.specs.Audited.{flight_state, own_climb}
use Rattle.acas_replay.specs.States.{second_from, state_after}
use Rattle.acas_replay.specs.declared.state.EncounterState.{EncounterState}

-- ---- at the ends

-- the same separations, from both sides
pub joined : (radius half : ℕ) (s : EncounterState) (advice : ℕ) (own intruder next_own next_intruder : ℤ) →
    IsContactAt radius half (second_from s own intruder) 1 1 ↔ IsContactAt radius half (second_from (state_after s advice own intruder) next_own next_intruder) 1 0
joined radius half s advice own intruder next_own next_intruder = (
  λ c. record {
    some = c.some;
    within = omega arith;
    horizontal = let h = c.horizontal in ranges s.range s.closing radius h;
    vertical = let v = c.vertical in rw (← altitudes) v;
  },
  λ c. record {
    some = c.some;
    within = omega arith;
    horizontal = let h = c.horizontal in back s.range s.closing radius h;
    vertical = let v = c.vertical in rw altitudes v;
  },
)
  where
    ranges : (r c : ℤ) (radius : ℕ) → unsigned_abs (r *ℤ pos 1 -ℤ c *ℤ pos 1) ≤ radius * 1 → unsigned_abs ((r -ℤ c) *ℤ pos 1 -ℤ c *ℤ pos 0) ≤ radius * 1
    ranges r c radius h = omega (arith, ints)

    back : (r c : ℤ) (radius : ℕ) → unsigned_abs ((r -ℤ c) *ℤ pos 1 -ℤ c *ℤ pos 0) ≤ radius * 1 → unsigned_abs (r *ℤ pos 1 -ℤ c *ℤ pos 1) ≤ radius * 1
    back r c radius h = omega (arith, ints)

    altitudes : separation (second_from s own intruder) 1 1 ≡ separation (second_from (state_after s advice own intruder) next_own next_intruder) 1 0
    altitudes = ring (s.point.h ∷ s.point.v0 ∷ s.point.v1 ∷ own ∷ intruder ∷ next_own ∷ next_intruder ∷ [])
        (((at 0 ⊗ num (pos 1)) ⊕ ((num (pos 2) ⊗ (at 2 ⊖ at 1)) ⊗ num (pos 1))) ⊕ ((at 4 ⊖ at 3) ⊗ num (pos 1)))
        (((((at 0 ⊕ (num (pos 2) ⊗ (at 2 ⊖ at 1))) ⊕ at 4) ⊖ at 3) ⊗ num (pos 1)) ⊕ ((num (pos 2) ⊗ ((at 2 ⊕ at 4) ⊖ (at 1 ⊕ at 3))) ⊗ num (pos 0)) ⊕ ((at 6 ⊖ at 5) ⊗ num (pos 0)))
        refl

-- ---- as that of a flight

-- both sides of an order over q
scaled_order : (x y : ℤ) (n k q : ℕ) → 0 < q → y ≡ x *ℤ pos q → k ≡ n * q → (unsigned_abs x ≤ n) ↔ (unsigned_abs y ≤ k)
scaled_order x y n k q some e f = (
  λ h. rw (e, f, unsigned_abs-mul x (pos q)) (mul-le-mul_right q h),
  λ h. le_of_mul-le-mul_right (rw (e, f, unsigned_abs-mul x (pos q)) at h) some,
)

range_over : (r c : ℤ) (q a : ℕ) → r *ℤ pos q *ℤ pos q -ℤ c *ℤ pos q *ℤ pos a ≡ (r *ℤ pos q -ℤ c *ℤ pos a) *ℤ pos q
range_over r c q a = ring (r ∷ c ∷ pos q ∷ pos a ∷ []) (((at 0 ⊗ at 2) ⊗ at 2) ⊖ ((at 1 ⊗ at 2) ⊗ at 3)) (((at 0 ⊗ at 2) ⊖ (at 1 ⊗ at 3)) ⊗ at 2) refl

altitude_over : (s : EncounterState) (own : ℤ) (q a : ℕ) →
    vertical_separation q (s.point.h *ℤ pos q) (s.point.v1 *ℤ pos q) a (own_climb s own q a) ≡ separation (second_from s own (pos 0)) q a *ℤ pos q
altitude_over s own q a = ring (s.point.h ∷ s.point.v0 ∷ s.point.v1 ∷ own ∷ pos q ∷ pos a ∷ [])
    ((((at 0 ⊗ at 4) ⊗ (at 4 ⊗ at 4)) ⊕ (((num (pos 2) ⊗ (at 2 ⊗ at 4)) ⊗ at 5) ⊗ at 4))
    ⊖ ((((num (pos 2) ⊗ ((at 1 ⊗ at 4) ⊗ at 4)) ⊗ at 5) ⊕ (((at 3 ⊗ at 4) ⊗ at 5) ⊗ at 5)) ⊕ num (pos 0)))
    ((((at 0 ⊗ (at 4 ⊗ at 4)) ⊕ ((num (pos 2) ⊗ (at 2 ⊖ at 1)) ⊗ (at 5 ⊗ at 4))) ⊕ ((num (pos 0) ⊖ at 3) ⊗ (at 5 ⊗ at 5))) ⊗ at 4)
    refl

pub of_flights : (m : ModelData) (s : EncounterState) (own : ℤ) (q a : ℕ) → 0 < q → a ≤ q →
    IsContactAt m.radius m.half (second_from s own (pos 0)) q a ↔ IsInContact m q (flight_state q s) a (own_climb s own q a)
of_flights m s own q a some within =
    let across = scaled_order (s.range *ℤ pos q -ℤ s.closing *ℤ pos a) (s.range *ℤ pos q *ℤ pos q -ℤ s.closing *ℤ pos q *ℤ pos a) (m.radius * q) (m.radius * (q * q)) q some (range_over s.range s.closing q a) (omega arith) in
    let up = scaled_order (separation (second_from s own (pos 0)) q a) (vertical_separation q (s.point.h *ℤ pos q) (s.point.v1 *ℤ pos q) a (own_climb s own q a)) (m.half * (q * q)) (m.half * (q * q * q)) q some (altitude_over s own q a) (omega arith) in (
      λ c. record { horizontal = across.0 c.horizontal; vertical = up.0 c.vertical },
      λ c. record { some = some; within = within; horizontal = across.1 c.horizontal; vertical = up.1 c.vertical },
    )
