-- The flights that reach the ends of the area of a cell begin at states of the cell.
use Rattle.std.proofs.Common.{◌≡◌, ℕ, ◌+◌, ◌*◌, ◌<◌, ◌≤◌, ◌⊎◌, Bool, true, false, cond, int_lt, refl, arith, List, length, ℤ, pos, ◌+ℤ◌, ◌-ℤ◌, ◌*ℤ◌, ◌≤ℤ◌, ◌<ℤ◌, mul-le-mul_right}
use Rattle.std.proofs.lemmas.Int.{ints, clamps}
use Rattle.acas_spec.specs.Axis.{Rises, place_value}
use Rattle.acas_spec.specs.Limits.{IsModel}
use Rattle.acas_spec.specs.Model.{ModelData}
use Rattle.acas_frac.proofs.RoundingLaws.{down_is_floor, up_is_ceiling}
use Rattle.acas_flight.specs.Curves.{high_hold, high_pull, highest, low_hold, low_pull, lowest}
use Rattle.acas_flight.specs.Parts.{CanBeMet}
use Rattle.acas_flight.specs.Response.{Demand, Meets, Segment, climb, demand_of, lasting, scaled}
use Rattle.acas_flight.specs.State.{Interval, IsInside, IsSecondsAway, State, from_place}
use Rattle.acas_flight_lemmas.proofs.Models.{demand_can_be_met}
use Rattle.acas_flight_lemmas.proofs.Rising.{scaled_le}
use Rattle.acas_flight_lemmas.proofs.Safe.{high_pull-some, low_pull-some}
use Rattle.acas_rulings.proofs.Spans.{rising_between}
use Rattle.acas_cells.specs.Cells.{Cell, IsCellOf}
use Rattle.acas_safeable.specs.Reached.{greatest_altitude, greatest_rate, least_altitude, least_rate}
use Rattle.acas_safeable.specs.Safe.{rate_left}
use Rattle.acas_safeable.specs.Seconds.{FliesASecond, altitude_after}
use Rattle.acas_safeable.proofs.Ends.{Leaves, curve, fast_end, over_last, slow_end, under_next}

-- at the least closing speed, n seconds outside the radius
away : (m : ModelData) (n q : ℕ) → IsModel m → IsSecondsAway m n q (pos ((n * m.least_closing + m.radius) * q)) (pos (m.least_closing * q))
away m n q is =
    let fast = mul-le-mul_right q is.closing in
    let left : pos ((n * m.least_closing + m.radius) * q) -ℤ pos (m.radius * q) ≡ pos (n * (m.least_closing * q)) = outside (n * m.least_closing) (m.radius) q (n * (m.least_closing * q)) (omega arith) in
    let more : n * (m.least_closing * q) ≤ (n + 1) * (m.least_closing * q) = mul-le-mul_right (m.least_closing * q) (omega arith) in
    record {
      ahead = omega (arith, ints);
      speed = (omega (arith, ints), omega (arith, ints, fast));
      not_before = rw left (omega (arith, ints, clamps));
      not_after = rw left (omega (arith, ints, clamps, more));
    }
  where
    outside : (x r q y : ℕ) → y ≡ x * q → pos ((x + r) * q) -ℤ pos (r * q) ≡ pos y
    outside x r q y e = omega (arith, ints, e)

abbrev state : ModelData → ℕ → ℕ → ℤ → ℤ → ℤ → State
state m n q h v w = record { range = pos ((n * m.least_closing + m.radius) * q); closing = pos (m.least_closing * q); altitude = h *ℤ pos q; own = v *ℤ pos q; intruder = w *ℤ pos q }

-- an end of an interval is inside
first_inside : (s : Interval) (q : ℕ) → s.least ≤ℤ s.greatest → IsInside q s (s.least *ℤ pos q)
first_inside s q o = (omega (arith, ints), scaled_le s.least s.greatest q o)

last_inside : (s : Interval) (q : ℕ) → s.least ≤ℤ s.greatest → IsInside q s (s.greatest *ℤ pos q)
last_inside s q o = (scaled_le s.least s.greatest q o, omega (arith, ints))

ordered : (axis : List ℤ) (place : ℕ) → Rises axis → place + 1 < length axis → (from_place axis place).least ≤ℤ (from_place axis place).greatest
ordered axis place rises within =
    let next : place_value axis place <ℤ place_value axis (place + 1) = rising_between axis rises place (place + 1) (omega arith) within in
    omega (arith, ints, next)

-- the pull and the hold that a test chooses are ones that the demand allows
pulled : (t : Bool) (a : Demand) → CanBeMet a → (a.pull ≤ cond t a.pull a.limit) × (cond t a.pull a.limit ≤ a.limit) × (cond t a.delay 0 ≤ a.delay)
pulled true a can = (omega arith, can.pull_within, omega arith)
pulled false a can = (can.pull_within, omega arith, omega arith)

module _ (m : ModelData) (c : Cell) (is : IsModel m) (cell : IsCellOf m c) where
  abbrev a : Demand
  a = demand_of m 0

  can : CanBeMet a
  can = demand_can_be_met m 0 is (omega (arith, is.grid.some_advisories))

  abbrev h : Interval
  h = from_place m.grid.h c.i

  abbrev v : Interval
  v = from_place m.grid.v0 c.j

  abbrev w : Interval
  w = from_place m.grid.v1 c.k

  oh : h.least ≤ℤ h.greatest
  oh = ordered m.grid.h c.i is.grid.altitudes.rising cell.i

  ov : v.least ≤ℤ v.greatest
  ov = ordered m.grid.v0 c.j is.grid.own_rates.rising cell.j

  ow : w.least ≤ℤ w.greatest
  ow = ordered m.grid.v1 c.k is.grid.intruder_rates.rising cell.k

  -- a flight from a state of these numbers
  flies : (q : ℕ) (x y z : ℤ) (first : List Segment) → 0 < q → IsInside q h (x *ℤ pos q) → IsInside q v (y *ℤ pos q) → IsInside q w (z *ℤ pos q) →
      Meets (scaled q a) ((y *ℤ pos q) *ℤ pos q) first → lasting first ≡ q → FliesASecond m c q (state m c.n q x y z) first
  flies q x y z first some i j k meets lasts = record {
    some = some;
    inside = record { away = away m c.n q is; altitude = i; own = j; intruder = k };
    clear = meets;
    one_second = lasts;
  }

  -- the greatest climb, below the lowest intruder
  pub lowest_end : (q : ℕ) × (s : State) × (first : List Segment) × FliesASecond m c q s first × (altitude_after q s first <ℤ ((least_altitude a h v w +ℤ pos 1) *ℤ pos (q * q * q)))
  lowest_end =
      let p = high_pull a v.greatest in
      let some = high_pull-some a v.greatest can in
      let allowed = pulled (int_lt a.hi v.greatest) a can in
      let r = curve a v.greatest a.hi p (high_hold a v.greatest) some can.ordered (omega (arith, ints)) allowed.0 allowed.1 allowed.2 in (
        p,
        state m c.n p h.least v.greatest w.least,
        r.flown,
        flies p h.least v.greatest w.least r.flown some (first_inside h p oh) (last_inside v p ov) (first_inside w p ow) r.meets r.lasts,
        under_next p some h.least w.least (climb ((v.greatest *ℤ pos p) *ℤ pos p) r.flown) (highest a v.greatest 1) (least_altitude a h v w) r.climbs
            (down_is_floor (((h.least +ℤ pos 2 *ℤ w.least) *ℤ pos p) -ℤ highest a v.greatest 1) p some).1,
      )

  -- the least climb, below the highest intruder
  pub highest_end : (q : ℕ) × (s : State) × (first : List Segment) × FliesASecond m c q s first × (((greatest_altitude a h v w -ℤ pos 1) *ℤ pos (q * q * q)) <ℤ altitude_after q s first)
  highest_end =
      let p = low_pull a v.least in
      let some = low_pull-some a v.least can in
      let allowed = pulled (int_lt v.least a.lo) a can in
      let r = curve a v.least a.lo p (low_hold a v.least) some (omega (arith, ints)) can.ordered allowed.0 allowed.1 allowed.2 in (
        p,
        state m c.n p h.greatest v.least w.greatest,
        r.flown,
        flies p h.greatest v.least w.greatest r.flown some (last_inside h p oh) (first_inside v p ov) (last_inside w p ow) r.meets r.lasts,
        over_last p some h.greatest w.greatest (climb ((v.least *ℤ pos p) *ℤ pos p) r.flown) (lowest a v.least 1) (greatest_altitude a h v w) r.climbs
            (up_is_ceiling (((h.greatest +ℤ pos 2 *ℤ w.greatest) *ℤ pos p) -ℤ lowest a v.least 1) p some).1,
      )

  -- a response that leaves a rate, from an end of the own rates
  leaving : (q : ℕ) (y u : ℤ) → IsInside q v (y *ℤ pos q) → Leaves a y q u → (q : ℕ) × (s : State) × (first : List Segment) × FliesASecond m c q s first × (rate_left (s.own *ℤ pos q) first ≡ u *ℤ pos (q * q))
  leaving q y u inside l =
      (q, state m c.n q h.least y w.least, l.flown, flies q h.least y w.least l.flown l.some (first_inside h q oh) inside (first_inside w q ow) l.meets l.lasts, l.left)

  pub slowest_end : (a.lo ≤ℤ v.least) ⊎ (0 < m.delay) → (q : ℕ) × (s : State) × (first : List Segment) × FliesASecond m c q s first × (rate_left (s.own *ℤ pos q) first ≡ least_rate a v *ℤ pos (q * q))
  slowest_end held = let l = slow_end a can v held in leaving l.0 v.least (least_rate a v) (first_inside v l.0 ov) l.1

  pub fastest_end : (v.greatest ≤ℤ a.hi) ⊎ (0 < m.delay) → (q : ℕ) × (s : State) × (first : List Segment) × FliesASecond m c q s first × (rate_left (s.own *ℤ pos q) first ≡ greatest_rate a v *ℤ pos (q * q))
  fastest_end held = let l = fast_end a can v held in leaving l.0 v.greatest (greatest_rate a v) (last_inside v l.0 ov) l.1

  -- the intruder keeps its rate
  pub descending_end : (q : ℕ) × (s : State) × (first : List Segment) × FliesASecond m c q s first × (s.intruder ≡ w.least *ℤ pos q)
  unfolding lowest_end
  descending_end = let e = lowest_end in (e.0, e.1, e.2, e.3, refl)

  pub climbing_end : (q : ℕ) × (s : State) × (first : List Segment) × FliesASecond m c q s first × (s.intruder ≡ w.greatest *ℤ pos q)
  unfolding highest_end
  climbing_end = let e = highest_end in (e.0, e.1, e.2, e.3, refl)
