-- Cells leave no gap between them.
use Rattle.std.proofs.Common.{◌≡◌, ℕ, zero, suc, ◌+◌, ◌-◌, ◌*◌, ◌<◌, ◌≤◌, ⊎_elim, arith, List, length, ℤ, pos, ◌-ℤ◌, ◌*ℤ◌, ◌≤ℤ◌, ◌<ℤ◌}
use Rattle.std.proofs.lemmas.Int.{ints, int_max_is}
use Rattle.acas_spec.specs.Axis.{IsAxis, place_value}
use Rattle.acas_spec.specs.Limits.{IsModel}
use Rattle.acas_spec.specs.Model.{ModelData}
use Rattle.acas_frac.proofs.Orders.{cases_lt_ℤ, mul_nonneg}
use Rattle.acas_flight.specs.State.{State, IsInside, closing_speeds, outside_radius, from_place, IsSecondsAway, IsInCell}

-- a number between the first and the last of a row is between two that follow one another
between_two : (f : ℕ → ℤ) (x : ℤ) (last : ℕ) → f 0 ≤ℤ x → x ≤ℤ f (last + 1) → (i : ℕ) × (i ≤ last) × (f i ≤ℤ x) × (x ≤ℤ f (i + 1))
between_two f x zero h k = (0, omega arith, h, k)
between_two f x (suc last) h k =
    ⊎_elim
    (λ (l : f (suc last) <ℤ x). (suc last, omega arith, omega (arith, ints, l), k))
    (λ (l : x ≤ℤ f (suc last)). let p = between_two f x last h (let e : suc last ≡ last + 1 = omega arith in rw (← e) l) in (p.0, omega (arith, p.1), p.2, p.3))
    (cases_lt_ℤ (f (suc last)) x)

on_axis : (axis : List ℤ) (q : ℕ) (x : ℤ) → IsAxis axis → (place_value axis 0 *ℤ pos q) ≤ℤ x → x ≤ℤ (place_value axis (length axis - 1) *ℤ pos q) →
    (i : ℕ) × (i + 1 < length axis) × IsInside q (from_place axis i) x
on_axis axis q x a h k =
    let some : length axis - 1 ≡ length axis - 2 + 1 = omega (arith, a.at_least) in
    let p = between_two (λ i. place_value axis i *ℤ pos q) x (length axis - 2) h (rw some at k) in
    (p.0, omega (arith, p.1, a.at_least), (p.2, p.3))

seconds_away : (m : ModelData) (q : ℕ) (range closing : ℤ) → 0 < m.grid.horizon → pos 0 ≤ℤ range → IsInside q (closing_speeds m) closing →
    (range -ℤ pos (m.radius * q)) ≤ℤ (pos m.grid.horizon *ℤ closing) → (n : ℕ) × (n < m.grid.horizon) × IsSecondsAway m n q range closing
seconds_away m q range closing some ahead speed h = at_last (m.grid.horizon - 1) (omega arith)
  where
    at_last : (last : ℕ) → m.grid.horizon ≡ last + 1 → (n : ℕ) × (n < m.grid.horizon) × IsSecondsAway m n q range closing
    at_last last e =
        let left = int_max_is (pos 0) (range -ℤ pos (m.radius * q)) in
        let least : (pos 0 *ℤ closing) ≤ℤ outside_radius m.radius q range = omega (arith, ints, left) in
        let h' = rw e at h in
        let end : pos 0 ≤ℤ (pos (last + 1) *ℤ closing) = not_negative closing (last + 1) (omega (arith, ints, speed.0)) in
        let greatest : outside_radius m.radius q range ≤ℤ (pos (last + 1) *ℤ closing) = omega (arith, ints, left, h', end) in
        let p = between_two (λ n. pos n *ℤ closing) (outside_radius m.radius q range) last least greatest in
        (p.0, omega (arith, p.1), record { ahead = ahead; speed = speed; not_before = p.2; not_after = p.3 })
      where
        not_negative : (z : ℤ) (n : ℕ) → pos 0 ≤ℤ z → pos 0 ≤ℤ (pos n *ℤ z)
        not_negative z n h = mul_nonneg (pos n) z (omega (arith, ints)) h

pub in_some_cell : (m : ModelData) (q : ℕ) (s : State) → IsModel m → 0 < m.grid.horizon → pos 0 ≤ℤ s.range → IsInside q (closing_speeds m) s.closing →
    (s.range -ℤ pos (m.radius * q)) ≤ℤ (pos m.grid.horizon *ℤ s.closing) →
    (place_value m.grid.h 0 *ℤ pos q) ≤ℤ s.altitude → s.altitude ≤ℤ (place_value m.grid.h (length m.grid.h - 1) *ℤ pos q) →
    (place_value m.grid.v0 0 *ℤ pos q) ≤ℤ s.own → s.own ≤ℤ (place_value m.grid.v0 (length m.grid.v0 - 1) *ℤ pos q) →
    (place_value m.grid.v1 0 *ℤ pos q) ≤ℤ s.intruder → s.intruder ≤ℤ (place_value m.grid.v1 (length m.grid.v1 - 1) *ℤ pos q) →
    (n : ℕ) × (i : ℕ) × (j : ℕ) × (k : ℕ) × (n < m.grid.horizon) × (i + 1 < length m.grid.h) × (j + 1 < length m.grid.v0) × (k + 1 < length m.grid.v1) × IsInCell m n i j k q s
in_some_cell m q s f some ahead speed near h h' o o' x x' =
    let n = seconds_away m q s.range s.closing some ahead speed near in
    let i = on_axis m.grid.h q s.altitude f.grid.altitudes h h' in
    let j = on_axis m.grid.v0 q s.own f.grid.own_rates o o' in
    let k = on_axis m.grid.v1 q s.intruder f.grid.intruder_rates x x' in
    (n.0, i.0, j.0, k.0, n.1, i.1, j.1, k.1, record { away = n.2; altitude = i.2; own = j.2; intruder = k.2 })
