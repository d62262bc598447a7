-- Seconds and contact in numbers.
use Rattle.std.proofs.Common.{◌≡◌, ℕ, ◌+◌, ◌*◌, ◌<◌, ◌≤◌, ◌↔◌, ⊎_elim, arith, ℤ, pos, negsuc, neg_ℤ, ◌-ℤ◌, ◌*ℤ◌, ◌≤ℤ◌, ◌<ℤ◌, mul-pos}
use Rattle.std.proofs.lemmas.Int.{ints, int_max_is}
use Rattle.std.proofs.lemmas.Bool.{cases_lt}
use Rattle.acas_spec.specs.Limits.{IsModel}
use Rattle.acas_spec.specs.Model.{ModelData}
use Rattle.acas_frac.proofs.Orders.{unsigned_abs-le, unsigned_abs-low, unsigned_abs-high}
use Rattle.acas_flight.specs.State.{State, IsSecondsAway, outside_radius}
use Rattle.acas_flight.specs.Contact.{vertical_separation, IsInContact}

outside_radius-left : (radius q : ℕ) (range : ℤ) → pos 0 ≤ℤ (range -ℤ pos (radius * q)) → outside_radius radius q range ≡ range -ℤ pos (radius * q)
outside_radius-left radius q range h = let e = int_max_is (pos 0) (range -ℤ pos (radius * q)) in omega (arith, ints, e)

outside_radius-none : (radius q : ℕ) (range : ℤ) → range ≤ℤ pos (radius * q) → outside_radius radius q range ≡ pos 0
outside_radius-none radius q range h = let e = int_max_is (pos 0) (range -ℤ pos (radius * q)) in omega (arith, ints, e)

pub seconds-outside : (m : ModelData) (n q : ℕ) (range closing : ℤ) → pos 0 ≤ℤ (range -ℤ pos (m.radius * q)) →
    IsSecondsAway m n q range closing
    ↔ ((pos (m.least_closing * q) ≤ℤ closing) × (closing ≤ℤ pos (m.greatest_closing * q))
    × ((pos n *ℤ closing) ≤ℤ (range -ℤ pos (m.radius * q))) × ((range -ℤ pos (m.radius * q)) ≤ℤ (pos (n + 1) *ℤ closing)))
seconds-outside m n q range closing h =
    let e = outside_radius-left m.radius q range h in (
      λ a. (a.speed.0, a.speed.1, rw e at a.not_before, rw e at a.not_after),
      λ b. record { ahead = omega (arith, ints); speed = (b.0, b.1); not_before = rw e b.2; not_after = rw e b.3 },
    )

-- a number of seconds of flight that is not above 0 is 0
none : (n : ℕ) (closing : ℤ) → pos 0 <ℤ closing → (pos n *ℤ closing) ≤ℤ pos 0 → n ≡ 0
none n (negsuc c) h k = absurd (omega (arith, ints))
none n (pos c) h k =
    let some : 0 < c = omega (arith, ints) in
    let l : n * c ≤ 0 = omega (arith, ints) in
    ⊎_elim (λ (p : 0 < n). absurd (let q = mul-pos p some in omega (arith, q, l))) (λ (p : n ≤ 0). omega (arith, p)) (cases_lt 0 n)

pub seconds-within : (m : ModelData) (n q : ℕ) (range closing : ℤ) → IsModel m → 0 < q → pos 0 ≤ℤ range → range ≤ℤ pos (m.radius * q) →
    IsSecondsAway m n q range closing ↔ ((pos (m.least_closing * q) ≤ℤ closing) × (closing ≤ℤ pos (m.greatest_closing * q)) × (n ≡ 0))
seconds-within m n q range closing f p h k =
    let e = outside_radius-none m.radius q range k in
    let slow : 0 < m.least_closing = omega (arith, f.some_closing) in
    let some : 0 < m.least_closing * q = mul-pos slow p in (
      λ a. (a.speed.0, a.speed.1, none n closing (omega (arith, ints, some, a.speed.0)) (rw e at a.not_before)),
      λ b. record { ahead = h; speed = (b.0, b.1); not_before = rw (e, b.2) (omega (arith, ints)); not_after = rw (e, b.2) (omega (arith, ints, b.0)) },
    )

pub contact : (m : ModelData) (q : ℕ) (s : State) (t : ℕ) (z : ℤ) →
    IsInContact m q s t z
    ↔ ((neg_ℤ (pos (m.radius * q * q)) ≤ℤ ((s.range *ℤ pos q) -ℤ (s.closing *ℤ pos t))) × (((s.range *ℤ pos q) -ℤ (s.closing *ℤ pos t)) ≤ℤ pos (m.radius * q * q))
    × (neg_ℤ (pos (m.half * q * q * q)) ≤ℤ vertical_separation q s.altitude s.intruder t z) × (vertical_separation q s.altitude s.intruder t z ≤ℤ pos (m.half * q * q * q)))
contact m q s t z =
    let disc : m.radius * q * q ≡ m.radius * (q * q) = omega arith in
    let puck : m.half * q * q * q ≡ m.half * (q * q * q) = omega arith in
    let ahead : ℤ = (s.range *ℤ pos q) -ℤ (s.closing *ℤ pos t) in
    let above : ℤ = vertical_separation q s.altitude s.intruder t z in (
      λ c. (
        rw disc (unsigned_abs-low ahead (m.radius * (q * q)) c.horizontal),
        rw disc (unsigned_abs-high ahead (m.radius * (q * q)) c.horizontal),
        rw puck (unsigned_abs-low above (m.half * (q * q * q)) c.vertical),
        rw puck (unsigned_abs-high above (m.half * (q * q * q)) c.vertical),
      ),
      λ b. record {
        horizontal = unsigned_abs-le ahead (m.radius * (q * q)) (rw disc at b.0) (rw disc at b.1);
        vertical = unsigned_abs-le above (m.half * (q * q * q)) (rw puck at b.2) (rw puck at b.3);
      },
    )
