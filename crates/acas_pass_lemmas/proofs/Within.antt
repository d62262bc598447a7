-- Each flight of each pass is one of the box.
use Rattle.std.proofs.Common.{◌≡◌, ℕ, ◌*◌, ◌<◌, ◌≤◌, ⊎_elim, refl, arith, [], ◌∷◌, ℤ, pos, ◌*ℤ◌, ◌≤ℤ◌, unsigned_abs, mul-le-mul_right}
use Rattle.std.proofs.lemmas.Int.{ints}
use Rattle.std.proofs.lemmas.Bool.{cases_lt}
use Rattle.acas_frac.proofs.IntRing.{at, num, ◌⊗◌, ring}
use Rattle.acas_flight_lemmas.proofs.Rising.{scaled_le}
use Rattle.acas_frac.specs.Fraction.{Fraction}
use Rattle.acas_flight.specs.Values.{IsAtMost}
use Rattle.acas_flight.specs.Response.{scaled}
use Rattle.acas_flight.specs.Window.{Times, IsDuring}
use Rattle.acas_flight.specs.State.{IsInside}
use Rattle.acas_areas.specs.Flights.{Flight, flight}
use Rattle.acas_areas.specs.Passes.{Pass, toward, rising, falling, Each}
use Rattle.acas_areas.specs.Search.{Search, IsSearch, IsTimed, grain, unit, time_step, rate_step, over_square, low_time, high_time, pull_at_low, hold_at_low, pull_at_high, hold_at_high, low_flight, high_flight_from, passes}
use Rattle.acas_areas.specs.Responses.{IsFlightFrom}
use Rattle.acas_pass_lemmas.proofs.Neighbours.{low_pull_within, high_pull_within, low_hold_within, high_hold_within, pull_some, pull_most}
use Rattle.acas_areas.specs.declared.steps.TheConstants.{PULL_STEPS}

pub between : (from to n i j : ℕ) → i ≤ from → i ≤ to → from ≤ j → to ≤ j → (i ≤ toward from to n) × (toward from to n ≤ j)
between from to n i j a b c d = (omega arith, omega arith)

pub between_up : (from to : ℤ) (n : ℕ) → from ≤ℤ to → (from ≤ℤ rising from to n) × (rising from to n ≤ℤ to)
between_up from to n h = (omega (arith, ints), omega (arith, ints))

pub between_down : (from to : ℤ) (n : ℕ) → to ≤ℤ from → (to ≤ℤ falling from to n) × (falling from to n ≤ℤ from)
between_down from to n h = (omega (arith, ints), omega (arith, ints))

-- a time of the window over the common denominator of two
in_window : (w : Times) (f : Fraction) (e : ℕ) → pos 0 ≤ℤ f.num → IsAtMost w.from f → IsAtMost f w.to → IsDuring (PULL_STEPS * (f.den * e)) w (unsigned_abs f.num * (PULL_STEPS * e))
in_window w f e h a b = (
  rw (first w.from.num f.den e, second f.num (unsigned_abs f.num) w.from.den e (omega (arith, ints))) (scaled_le _ _ (PULL_STEPS * e) a),
  rw (first w.to.num f.den e, second f.num (unsigned_abs f.num) w.to.den e (omega (arith, ints))) (scaled_le _ _ (PULL_STEPS * e) b),
)
  where
    first : (n : ℤ) (d e : ℕ) → n *ℤ pos (PULL_STEPS * (d * e)) ≡ (n *ℤ pos d) *ℤ pos (PULL_STEPS * e)
    first n d e = ring (n ∷ pos d ∷ pos e ∷ []) (at 0 ⊗ (num (pos PULL_STEPS) ⊗ (at 1 ⊗ at 2))) ((at 0 ⊗ at 1) ⊗ (num (pos PULL_STEPS) ⊗ at 2)) refl

    second : (n : ℤ) (m d e : ℕ) → n ≡ pos m → pos ((m * (PULL_STEPS * e)) * d) ≡ (n *ℤ pos d) *ℤ pos (PULL_STEPS * e)
    second n m d e f = rw f (ring (pos m ∷ pos d ∷ pos e ∷ []) ((at 0 ⊗ (num (pos PULL_STEPS) ⊗ at 2)) ⊗ at 1) ((at 0 ⊗ at 1) ⊗ (num (pos PULL_STEPS) ⊗ at 2)) refl)

convex : (q : ℕ) (w : Times) (t u x : ℕ) → IsDuring q w t → IsDuring q w u → t ≤ x → x ≤ u → IsDuring q w x
convex q w t u x a b h k = (
  (let m : t * w.from.den ≤ x * w.from.den = mul-le-mul_right w.from.den h in line (w.from.num *ℤ pos q) (t * w.from.den) (x * w.from.den) a.0 m),
  (let m : x * w.to.den ≤ u * w.to.den = mul-le-mul_right w.to.den k in line_down (w.to.num *ℤ pos q) (u * w.to.den) (x * w.to.den) b.1 m),
)
  where
    line : (a : ℤ) (m n : ℕ) → a ≤ℤ pos m → m ≤ n → a ≤ℤ pos n
    line a m n h k = omega (arith, ints)

    line_down : (a : ℤ) (m n : ℕ) → pos m ≤ℤ a → n ≤ m → pos n ≤ℤ a
    line_down a m n h k = omega (arith, ints)

module _ (s : Search) (is : IsSearch s) (w : Times) (timed : IsTimed s w) where
  low_in : IsDuring (unit s) w (low_time s)
  low_in = in_window w s.low s.high.den is.low.least timed.low_after timed.low_before

  high_in : IsDuring (unit s) w (high_time s)
  high_in = turn (PULL_STEPS * (s.high.den * s.low.den)) (unit s) (omega arith) (in_window w s.high s.low.den is.high.least timed.high_after timed.high_before)
    where
      turn : (p q : ℕ) → p ≡ q → IsDuring p w (high_time s) → IsDuring q w (high_time s)
      turn p q e i = rw e at i

  time_in : (n : ℕ) → IsDuring (unit s) w (toward (low_time s) (high_time s) n)
  time_in n = ⊎_elim
      (λ l. let b = between (low_time s) (high_time s) n (low_time s) (high_time s) (omega arith) (omega arith) (omega arith) (omega arith) in convex (unit s) w (low_time s) (high_time s) _ low_in high_in b.0 b.1)
      (λ l. let b = between (low_time s) (high_time s) n (high_time s) (low_time s) (omega arith) (omega arith) (omega arith) (omega arith) in convex (unit s) w (high_time s) (low_time s) _ high_in low_in b.0 b.1)
      (cases_lt (low_time s) (high_time s))

  over_le : (v u : ℤ) → v ≤ℤ u → over_square s v ≤ℤ over_square s u
  over_le v u h = scaled_le v u (unit s * unit s) h

  same_ℤ : (v : ℤ) → v ≤ℤ v
  same_ℤ v = omega (arith, ints)

  slowest_in : IsInside (unit s * unit s) s.area.own (over_square s s.area.own.least)
  slowest_in = (same_ℤ _, over_le _ _ is.own.ordered)

  low_intruder_in : IsInside (unit s * unit s) s.area.intruder (over_square s s.area.intruder.least)
  low_intruder_in = (same_ℤ _, over_le _ _ is.intruder.ordered)

  high_intruder_in : IsInside (unit s * unit s) s.area.intruder (over_square s s.area.intruder.greatest)
  high_intruder_in = (over_le _ _ is.intruder.ordered, same_ℤ _)

  low_pull_in : (s.demand.pull * unit s ≤ pull_at_low s) × (pull_at_low s ≤ s.demand.limit * unit s) × (0 < pull_at_low s)
  low_pull_in = low_pull_within (scaled (unit s) s.demand) (over_square s s.area.own.least) (pull_some s is) (pull_most s is)

  high_pull_in : (v : ℤ) → (s.demand.pull * unit s ≤ pull_at_high s v) × (pull_at_high s v ≤ s.demand.limit * unit s) × (0 < pull_at_high s v)
  high_pull_in v = high_pull_within (scaled (unit s) s.demand) v (pull_some s is) (pull_most s is)

  low_hold_in : hold_at_low s ≤ s.demand.delay * unit s
  low_hold_in = low_hold_within (scaled (unit s) s.demand) (over_square s s.area.own.least)

  high_hold_in : (v : ℤ) → hold_at_high s v ≤ s.demand.delay * unit s
  high_hold_in v = high_hold_within (scaled (unit s) s.demand) v

  -- a flight from the lowest rate, with what else moves
  abbrev From : ℕ → ℤ → ℤ → ℤ → ℕ → ℕ → Type 0
  From t h x k b g = IsFlightFrom s.demand s.area w (unit s) (flight t h (over_square s s.area.own.least) x k b g)

  from : (t : ℕ) (h x k : ℤ) (b g : ℕ) → IsDuring (unit s) w t → (s.area.altitude.least ≤ℤ h) × (h ≤ℤ s.area.altitude.greatest) → IsInside (unit s * unit s) s.area.intruder x →
      (over_square s s.demand.lo ≤ℤ k) × (k ≤ℤ over_square s s.demand.hi) → (s.demand.pull * unit s ≤ b) × (b ≤ s.demand.limit * unit s) → g ≤ s.demand.delay * unit s →
      IsFlightFrom s.demand s.area w (unit s) (flight t h (over_square s s.area.own.least) x k b g)
  from t h x k b g it ih ix ik ib ig = record {
    time = it;
    not_under = ih.0;
    not_over = ih.1;
    own = slowest_in;
    intruder = ix;
    aim_least = ik.0;
    aim_greatest = ik.1;
    pull_least = ib.0;
    pull_most = ib.1;
    hold = ig;
  }

  top : (s.area.altitude.least ≤ℤ s.area.altitude.greatest) × (s.area.altitude.greatest ≤ℤ s.area.altitude.greatest)
  top = (is.altitude, same_ℤ _)

  bottom : (s.area.altitude.least ≤ℤ s.area.altitude.least) × (s.area.altitude.least ≤ℤ s.area.altitude.greatest)
  bottom = (same_ℤ _, is.altitude)

  least_aim : (over_square s s.demand.lo ≤ℤ over_square s s.demand.lo) × (over_square s s.demand.lo ≤ℤ over_square s s.demand.hi)
  least_aim = (same_ℤ _, over_le _ _ is.demand.ordered)

  greatest_aim : (over_square s s.demand.lo ≤ℤ over_square s s.demand.hi) × (over_square s s.demand.hi ≤ℤ over_square s s.demand.hi)
  greatest_aim = (over_le _ _ is.demand.ordered, same_ℤ _)

  first_pull : (s.demand.pull * unit s ≤ pull_at_low s) × (pull_at_low s ≤ s.demand.limit * unit s)
  first_pull = (low_pull_in.0, low_pull_in.1)

  pub of_low : IsFlightFrom s.demand s.area w (unit s) (low_flight s)
  of_low = from (low_time s) s.area.altitude.greatest (over_square s s.area.intruder.greatest) (over_square s s.demand.lo) (pull_at_low s) (hold_at_low s) low_in top high_intruder_in least_aim first_pull low_hold_in

  pub of_from : (v : ℤ) → IsInside (unit s * unit s) s.area.own v → IsFlightFrom s.demand s.area w (unit s) (high_flight_from s v)
  of_from v i = record {
    time = high_in;
    not_under = bottom.0;
    not_over = bottom.1;
    own = i;
    intruder = low_intruder_in;
    aim_least = greatest_aim.0;
    aim_greatest = greatest_aim.1;
    pull_least = (high_pull_in v).0;
    pull_most = (high_pull_in v).1;
    hold = high_hold_in v;
  }

  abbrev pub AllFrom : Pass Flight → Type 0
  AllFrom p = (i : ℕ) → IsFlightFrom s.demand s.area w (unit s) (p.point i)

  pub each_from : Each AllFrom (passes s)
  each_from = (
    (λ i. from _ _ _ _ _ _ (time_in (i * (time_step s))) top high_intruder_in least_aim first_pull low_hold_in),
    (
      (λ i. from _ _ _ _ _ _ high_in (between_down s.area.altitude.greatest s.area.altitude.least (i * 1) is.altitude) high_intruder_in least_aim first_pull low_hold_in),
      (
        (λ i. from _ _ _ _ _ _ high_in bottom (between_down (over_square s s.area.intruder.greatest) (over_square s s.area.intruder.least) (i * rate_step s) (over_le _ _ is.intruder.ordered)) least_aim first_pull low_hold_in),
        (
          (λ i. from _ _ _ _ _ _ high_in bottom low_intruder_in (between_up (over_square s s.demand.lo) (over_square s s.demand.hi) (i * rate_step s) (over_le _ _ is.demand.ordered)) first_pull low_hold_in),
          (
            (λ i. from _ _ _ _ _ _ high_in bottom low_intruder_in greatest_aim (between_pulls (i * grain s)) low_hold_in),
            (
              (λ i. from _ _ _ _ _ _ high_in bottom low_intruder_in greatest_aim last_pull (between_holds (i * (time_step s)))),
              (
                (λ i. of_from _ (between_up (over_square s s.area.own.least) (over_square s s.area.own.greatest) (i * rate_step s) (over_le _ _ is.own.ordered))),
                tt,
              ),
            ),
          ),
        ),
      ),
    ),
  )
    where
      last_pull : (s.demand.pull * unit s ≤ pull_at_high s (over_square s s.area.own.least)) × (pull_at_high s (over_square s s.area.own.least) ≤ s.demand.limit * unit s)
      last_pull = ((high_pull_in (over_square s s.area.own.least)).0, (high_pull_in (over_square s s.area.own.least)).1)

      between_pulls : (n : ℕ) → (s.demand.pull * unit s ≤ toward (pull_at_low s) (pull_at_high s (over_square s s.area.own.least)) n) × (toward (pull_at_low s) (pull_at_high s (over_square s s.area.own.least)) n ≤ s.demand.limit * unit s)
      between_pulls n = between (pull_at_low s) (pull_at_high s (over_square s s.area.own.least)) n (s.demand.pull * unit s) (s.demand.limit * unit s) first_pull.0 last_pull.0 first_pull.1 last_pull.1

      between_holds : (n : ℕ) → toward (hold_at_low s) (hold_at_high s (over_square s s.area.own.least)) n ≤ s.demand.delay * unit s
      between_holds n = (between (hold_at_low s) (hold_at_high s (over_square s s.area.own.least)) n 0 (s.demand.delay * unit s) (omega arith) (omega arith) low_hold_in (high_hold_in (over_square s s.area.own.least))).1
