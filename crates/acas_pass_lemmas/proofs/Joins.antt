-- Where a pass of a search ends the next one begins.
use Rattle.std.proofs.Common.{◌≡◌, ℕ, ◌+◌, ◌-◌, ◌*◌, ◌≤◌, ap, ap₂, ◌∙◌, sym, arith, ℤ, ◌-ℤ◌, ◌≤ℤ◌, unsigned_abs}
use Rattle.std.proofs.lemmas.Int.{ints}
use Rattle.acas_flight_lemmas.proofs.Rising.{scaled_le}
use Rattle.acas_areas.specs.Flights.{flight}
use Rattle.acas_areas.specs.Passes.{IsLast, AreJoined, toward, rising, falling}
use Rattle.acas_areas.specs.Search.{Search, IsSearch, grain, unit, time_step, rate_step, over_square, low_time, high_time, pull_at_low, hold_at_low, pull_at_high, hold_at_high, low_flight, high_flight, high_flight_from, time_pass, altitude_pass, intruder_pass, aim_pass, pull_pass, hold_pass, own_pass, passes}

pub toward-end : (from to n : ℕ) → (to - from) + (from - to) ≤ n → toward from to n ≡ to
toward-end from to n h = omega arith

pub toward-start : (from to s : ℕ) → toward from to (0 * s) ≡ from
toward-start from to s = omega arith

pub rising-end : (from to : ℤ) (n : ℕ) → from ≤ℤ to → unsigned_abs (to -ℤ from) ≤ n → rising from to n ≡ to
rising-end from to n h k = omega (arith, ints)

pub rising-start : (from to : ℤ) (s : ℕ) → rising from to (0 * s) ≡ from
rising-start from to s = omega (arith, ints)

pub falling-end : (from to : ℤ) (n : ℕ) → to ≤ℤ from → unsigned_abs (from -ℤ to) ≤ n → falling from to n ≡ to
falling-end from to n h k = omega (arith, ints)

pub falling-start : (from to : ℤ) (s : ℕ) → falling from to (0 * s) ≡ from
falling-start from to s = omega (arith, ints)

pub time-start : (s : Search) → (time_pass s).point 0 ≡ low_flight s
time-start s = ap (λ t. flight t s.area.altitude.greatest (over_square s s.area.own.least) (over_square s s.area.intruder.greatest) (over_square s s.demand.lo) (pull_at_low s) (hold_at_low s)) (toward-start (low_time s) (high_time s) (time_step s))

module _ (s : Search) (is : IsSearch s) where
  time-altitude : (last : ℕ) → IsLast (time_pass s) last → (time_pass s).point last ≡ (altitude_pass s).point 0
  time-altitude last l = ap₂ (λ t h. flight t h (over_square s s.area.own.least) (over_square s s.area.intruder.greatest) (over_square s s.demand.lo) (pull_at_low s) (hold_at_low s))
      (toward-end (low_time s) (high_time s) (last * (time_step s)) l.reaches) (sym (falling-start s.area.altitude.greatest s.area.altitude.least 1))

  altitude-intruder : (last : ℕ) → IsLast (altitude_pass s) last → (altitude_pass s).point last ≡ (intruder_pass s).point 0
  altitude-intruder last l = ap₂ (λ h w. flight (high_time s) h (over_square s s.area.own.least) w (over_square s s.demand.lo) (pull_at_low s) (hold_at_low s))
      (falling-end s.area.altitude.greatest s.area.altitude.least (last * 1) is.altitude l.reaches)
      (sym (falling-start (over_square s s.area.intruder.greatest) (over_square s s.area.intruder.least) (rate_step s)))

  intruder-aim : (last : ℕ) → IsLast (intruder_pass s) last → (intruder_pass s).point last ≡ (aim_pass s).point 0
  intruder-aim last l = ap₂ (λ w k. flight (high_time s) s.area.altitude.least (over_square s s.area.own.least) w k (pull_at_low s) (hold_at_low s))
      (falling-end (over_square s s.area.intruder.greatest) (over_square s s.area.intruder.least) (last * rate_step s) (scaled_le _ _ (unit s * unit s) is.intruder.ordered) l.reaches)
      (sym (rising-start (over_square s s.demand.lo) (over_square s s.demand.hi) (rate_step s)))

  aim-pull : (last : ℕ) → IsLast (aim_pass s) last → (aim_pass s).point last ≡ (pull_pass s).point 0
  aim-pull last l = ap₂ (λ k b. flight (high_time s) s.area.altitude.least (over_square s s.area.own.least) (over_square s s.area.intruder.least) k b (hold_at_low s))
      (rising-end (over_square s s.demand.lo) (over_square s s.demand.hi) (last * rate_step s) (scaled_le _ _ (unit s * unit s) is.demand.ordered) l.reaches)
      (sym (toward-start (pull_at_low s) (pull_at_high s (over_square s s.area.own.least)) (grain s)))

  pull-hold : (last : ℕ) → IsLast (pull_pass s) last → (pull_pass s).point last ≡ (hold_pass s).point 0
  pull-hold last l = ap₂ (λ b g. flight (high_time s) s.area.altitude.least (over_square s s.area.own.least) (over_square s s.area.intruder.least) (over_square s s.demand.hi) b g)
      (toward-end (pull_at_low s) (pull_at_high s (over_square s s.area.own.least)) (last * grain s) l.reaches)
      (sym (toward-start (hold_at_low s) (hold_at_high s (over_square s s.area.own.least)) (time_step s)))

  hold-own : (last : ℕ) → IsLast (hold_pass s) last → (hold_pass s).point last ≡ (own_pass s).point 0
  hold-own last l =
      ap (λ g. flight (high_time s) s.area.altitude.least (over_square s s.area.own.least) (over_square s s.area.intruder.least) (over_square s s.demand.hi) (pull_at_high s (over_square s s.area.own.least)) g)
      (toward-end (hold_at_low s) (hold_at_high s (over_square s s.area.own.least)) (last * (time_step s)) l.reaches)
      ∙ ap (high_flight_from s) (sym (rising-start (over_square s s.area.own.least) (over_square s s.area.own.greatest) (rate_step s)))

  pub own-end : (last : ℕ) → IsLast (own_pass s) last → (own_pass s).point last ≡ high_flight s
  own-end last l = ap (high_flight_from s) (rising-end (over_square s s.area.own.least) (over_square s s.area.own.greatest) (last * rate_step s) (scaled_le _ _ (unit s * unit s) is.own.ordered) l.reaches)

  pub joined : AreJoined (passes s)
  joined = (time-altitude, (altitude-intruder, (intruder-aim, (aim-pull, (pull-hold, (hold-own, tt))))))
