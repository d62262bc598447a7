-- The window of a cell is exact.
use Rattle.std.proofs.Common.{ℤ, pos, negsuc, ◌-ℤ◌, ◌*ℤ◌, ◌≡◌, ℕ, ◌+◌, ◌-◌, ◌*◌, ◌<◌, ◌≤◌, ◌⊎◌, ◌↔◌, inl, inr, ⊎_elim, arith, mul-pos, mul-le-mul_right, le_refl, le_of_lt, lt_of_lt_of_le}
use native.Mathlib.Nat.{mul-le-mul_left, le_of_mul-le-mul_left}
use Rattle.std.proofs.lemmas.Bool.{cases_lt}
use Rattle.std.proofs.lemmas.Int.{ints, int_max_is}
use Rattle.acas_spec.specs.Model.{ModelData}
use Rattle.acas_frac.proofs.Orders.{unsigned_abs-le, unsigned_abs-low, unsigned_abs-high}
use Rattle.acas_flight.specs.State.{IsSecondsAway, outside_radius}
use Rattle.acas_flight.specs.Contact.{IsHorizontalContact}
use Rattle.acas_flight.specs.Window.{IsContactTimeOfCell}

-- ---- the definitions over naturals, where a range is not negative

-- at the time t over q the range is within the radius
pub record Near (radius q range speed t : ℕ) : Type 0 where
  pub not_far : range * q ≤ speed * t + radius * q * q
  pub not_past : speed * t ≤ range * q + radius * q * q

-- a closing speed from slow to fast, and a range from which horizontal separation is lost in n to n + 1 seconds
pub record Away (radius slow fast n q range speed : ℕ) : Type 0 where
  pub at_least : slow * q ≤ speed
  pub at_most : speed ≤ fast * q
  pub after : n * speed ≤ range - radius * q
  pub before : range - radius * q ≤ (n + 1) * speed

abbrev IsNearAt : ℕ → ℕ → ℕ → ℕ → ℕ → ℕ → Type 0
IsNearAt radius slow fast n q t = (range : ℕ) × (speed : ℕ) × Away radius slow fast n q range speed × Near radius q range speed t

pub IsHorizontalContact-of : (radius q range speed t : ℕ) → Near radius q range speed t → IsHorizontalContact radius q (pos range) (pos speed) t
IsHorizontalContact-of radius q range speed t c =
    unsigned_abs-le ((pos range *ℤ pos q) -ℤ (pos speed *ℤ pos t)) (radius * (q * q)) (omega (arith, ints, c.not_past)) (omega (arith, ints, c.not_far))

pub Near-of : (radius q range speed t : ℕ) → IsHorizontalContact radius q (pos range) (pos speed) t → Near radius q range speed t
Near-of radius q range speed t c =
    let low = unsigned_abs-low ((pos range *ℤ pos q) -ℤ (pos speed *ℤ pos t)) (radius * (q * q)) c in
    let high = unsigned_abs-high ((pos range *ℤ pos q) -ℤ (pos speed *ℤ pos t)) (radius * (q * q)) c in
    record { not_far = omega (arith, ints, high); not_past = omega (arith, ints, low) }

outside : (radius q range : ℕ) → outside_radius radius q (pos range) ≡ pos (range - radius * q)
outside radius q range =
    let e = int_max_is (pos 0) (pos range -ℤ pos (radius * q)) in
    omega (arith, ints, e)

-- ---- the window

-- from n to n + 1 + 2 radius / slow
abbrev pub IsTimeOfCell : ℕ → ℕ → ℕ → ℕ → ℕ → Type 0
IsTimeOfCell radius slow n q t = (n * q ≤ t) × (slow * t ≤ slow * ((n + 1) * q) + 2 * radius * q)

-- what is left beyond the radius is flown by the time t
beyond : (radius q range speed t m : ℕ) → (m ≡ 0) ⊎ (range ≡ radius * q + m) → range * q ≤ speed * t + radius * q * q → m * q ≤ speed * t
beyond radius q range speed t m h k = ⊎_elim (λ e. rw e (omega arith)) (λ e. let k' = rw e at k in omega arith) h

not_early : (n q speed t m : ℕ) → 0 < speed → n * speed ≤ m → m * q ≤ speed * t → n * q ≤ t
not_early n q speed t m p h k = le_of_mul-le-mul_left {m = n * q} {n = t} {k = speed} (omega (arith, mul-le-mul_right q h)) p

not_late : (radius slow n q speed range e : ℕ) → 0 < q → slow * q ≤ speed → range ≤ radius * q + (n + 1) * speed →
    speed * ((n + 1) * q + e) ≤ range * q + radius * q * q → slow * e ≤ 2 * radius * q
not_late radius slow n q speed range e p h k c =
    le_of_mul-le-mul_left {m = slow * e} {n = 2 * radius * q} {k = q} (omega (arith, mul-le-mul_right e h, mul-le-mul_right q k)) p

module _ (radius slow fast n q t : ℕ) (some : 0 < q) (moves : 0 < slow) (order : slow ≤ fast) where
  window : (range speed : ℕ) → Away radius slow fast n q range speed → Near radius q range speed t → IsTimeOfCell radius slow n q t
  window range speed r c = (
    not_early n q speed t (range - radius * q) (lt_of_lt_of_le (mul-pos moves some) r.at_least) r.after
        (beyond radius q range speed t (range - radius * q)
        (⊎_elim (λ (l : range < radius * q). inl (omega arith)) (λ (l : radius * q ≤ range). inr (omega arith)) (cases_lt range (radius * q))) c.not_far),
    ⊎_elim
        (λ (l : t < (n + 1) * q). omega (arith, mul-le-mul_left slow (le_of_lt l)))
        (λ (l : (n + 1) * q ≤ t). late (t - (n + 1) * q) (omega arith))
        (cases_lt t ((n + 1) * q)),
  )
    where
      late : (e : ℕ) → t ≡ (n + 1) * q + e → slow * t ≤ slow * ((n + 1) * q) + 2 * radius * q
      late e f =
          let far = rw f at c.not_past in
          let bound : range ≤ radius * q + (n + 1) * speed = omega (arith, r.before) in
          let small = not_late radius slow n q speed range e some r.at_least bound far in
          rw f (omega (arith, small))

  -- the slowest speed, and the range that is lost at the time y
  at_slowest : (y : ℕ) → y ≤ t → y ≤ (n + 1) * q → n * q ≤ y → slow * t ≤ slow * y + 2 * radius * q →
      Away radius slow fast n q (radius * q + slow * y) (slow * q) × Near radius q (radius * q + slow * y) (slow * q) t
  at_slowest y h i j k = (
    record {
      at_least = le_refl (slow * q);
      at_most = mul-le-mul_right q order;
      after = omega (arith, mul-le-mul_left slow j);
      before = omega (arith, mul-le-mul_left slow i);
    },
    record {
      not_far = omega (arith, mul-le-mul_left (slow * q) h);
      not_past = omega (arith, mul-le-mul_right q k);
    },
  )

  witness : IsTimeOfCell radius slow n q t → IsNearAt radius slow fast n q t
  witness w =
      ⊎_elim
      (λ (l : t < (n + 1) * q). from t (at_slowest t (le_refl t) (le_of_lt l) w.0 (omega arith)))
      (λ (l : (n + 1) * q ≤ t). from ((n + 1) * q) (at_slowest ((n + 1) * q) l (le_refl ((n + 1) * q)) (omega arith) w.1))
      (cases_lt t ((n + 1) * q))
    where
      from : (y : ℕ) → Away radius slow fast n q (radius * q + slow * y) (slow * q) × Near radius q (radius * q + slow * y) (slow * q) t →
          IsNearAt radius slow fast n q t
      from y p = (radius * q + slow * y, slow * q, p.0, p.1)

both : (radius slow fast n q t : ℕ) → 0 < q → 0 < slow → slow ≤ fast → IsTimeOfCell radius slow n q t ↔ IsNearAt radius slow fast n q t
both radius slow fast n q t p s o = (witness radius slow fast n q t p s o, λ e. window radius slow fast n q t p s o e.0 e.1 e.2 e.3)

pub IsSecondsAway-of : (m : ModelData) (n q range speed : ℕ) → Away m.radius m.least_closing m.greatest_closing n q range speed → IsSecondsAway m n q (pos range) (pos speed)
IsSecondsAway-of m n q range speed a = record {
  ahead = omega (arith, ints);
  speed = (omega (arith, ints, a.at_least), omega (arith, ints, a.at_most));
  not_before = rw (outside m.radius q range) (omega (arith, ints, a.after));
  not_after = rw (outside m.radius q range) (omega (arith, ints, a.before));
}

module _ (m : ModelData) (n q t : ℕ) where
  to : IsNearAt m.radius m.least_closing m.greatest_closing n q t → IsContactTimeOfCell m n q t
  to e = (pos e.0, pos e.1, IsSecondsAway-of m n q e.0 e.1 e.2, IsHorizontalContact-of m.radius q e.0 e.1 t e.3)

  from : IsContactTimeOfCell m n q t → IsNearAt m.radius m.least_closing m.greatest_closing n q t
  from e = by e.0 e.1 e.2 e.3
    where
      by : (range closing : ℤ) → IsSecondsAway m n q range closing → IsHorizontalContact m.radius q range closing t → IsNearAt m.radius m.least_closing m.greatest_closing n q t
      by (negsuc r) c a near = absurd (omega (arith, ints, a.ahead))
      by (pos r) (negsuc c) a near = absurd (omega (arith, ints, a.speed.0))
      by (pos r) (pos c) a near = (
        r,
        c,
        (let after = rw (outside m.radius q r) at a.not_before in
            let before = rw (outside m.radius q r) at a.not_after in record {
              at_least = omega (arith, ints, a.speed.0);
              at_most = omega (arith, ints, a.speed.1);
              after = omega (arith, ints, after);
              before = omega (arith, ints, before);
            }),
        Near-of m.radius q r c t near,
      )

pub window_of_cell : (m : ModelData) (n q t : ℕ) → 0 < q → 0 < m.least_closing → m.least_closing ≤ m.greatest_closing →
    IsTimeOfCell m.radius m.least_closing n q t ↔ IsContactTimeOfCell m n q t
window_of_cell m n q t p s o =
    let law = both m.radius m.least_closing m.greatest_closing n q t p s o in
    (λ w. to m n q t (law.0 w), λ e. law.1 (from m n q t e))
