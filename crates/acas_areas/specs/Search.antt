-- The search of a flight in contact, from the low flight of an area to its high flight.
use Rattle.std.specs.Prelude.{ℕ, ◌*◌, ◌/◌, ◌<◌, ◌≤◌, List, [], ◌∷◌, ℤ, pos, neg_ℤ, ◌*ℤ◌, ◌≤ℤ◌, unsigned_abs}
use Rattle.acas_units.specs.declared.limits.TheConstants.{GREATEST_RATE, WINDOW_SECONDS}
use Rattle.acas_frac.specs.Fraction.{Fraction}
use Rattle.acas_flight.specs.Response.{Demand, scaled}
use Rattle.acas_flight.specs.Parts.{CanBeMet}
use Rattle.acas_flight.specs.Curves.{low_pull, low_hold, high_pull, high_hold}
use Rattle.acas_flight.specs.State.{Interval}
use Rattle.acas_flight.specs.Clear.{Area}
use Rattle.acas_flight.specs.Values.{IsAtMost}
use Rattle.acas_flight.specs.Window.{Times}
use Rattle.acas_areas.specs.declared.steps.TheConstants.{TIME_STEPS, PULL_STEPS, RATE_STEPS}
use Rattle.acas_areas.specs.Flights.{Flight, value}
use Rattle.acas_areas.specs.Passes as search
use Rattle.acas_areas.specs.Passes.{Pass, moving, moving_up, moving_down}

-- what is searched: an area under a demand, from the time of the low flight to that of the high flight
pub record Search : Type 0 where
  pub demand : Demand
  pub area : Area
  pub low : Fraction
  pub high : Fraction

-- ---- a common denominator of all flights of the search

abbrev pub grain : Search → ℕ
grain s = s.low.den * s.high.den

abbrev pub unit : Search → ℕ
unit s = PULL_STEPS * grain s

-- the two times, and a rate, over it
abbrev pub low_time : Search → ℕ
low_time s = unsigned_abs s.low.num * (PULL_STEPS * s.high.den)

abbrev pub high_time : Search → ℕ
high_time s = unsigned_abs s.high.num * (PULL_STEPS * s.low.den)

abbrev pub over_square : Search → ℤ → ℤ
over_square s v = v *ℤ pos (unit s * unit s)

-- the step of a time or a hold, of a pull, and of a rate
abbrev pub time_step : Search → ℕ
time_step s = (PULL_STEPS / TIME_STEPS) * grain s

abbrev pub pull_step : Search → ℕ
pull_step s = grain s

abbrev pub rate_step : Search → ℕ
rate_step s = (PULL_STEPS * PULL_STEPS / RATE_STEPS) * (grain s * grain s)

-- ---- the low flight and the high flight

-- pull and hold of the lowest climb from the least own rate, and of the highest from a rate
abbrev pub pull_at_low : Search → ℕ
pull_at_low s = low_pull (scaled (unit s) s.demand) (over_square s s.area.own.least)

abbrev pub hold_at_low : Search → ℕ
hold_at_low s = low_hold (scaled (unit s) s.demand) (over_square s s.area.own.least)

abbrev pub pull_at_high : Search → ℤ → ℕ
pull_at_high s v = high_pull (scaled (unit s) s.demand) v

abbrev pub hold_at_high : Search → ℤ → ℕ
hold_at_high s v = high_hold (scaled (unit s) s.demand) v

-- the low flight: the lowest climb from the least own rate, below the highest intruder
abbrev pub low_flight : Search → Flight
low_flight s = record {
  time = low_time s;
  altitude = s.area.altitude.greatest;
  own = over_square s s.area.own.least;
  intruder = over_square s s.area.intruder.greatest;
  aim = over_square s s.demand.lo;
  pull = pull_at_low s;
  hold = hold_at_low s;
}

-- the high flight from a rate: the highest climb, above the lowest intruder
abbrev pub high_flight_from : Search → ℤ → Flight
high_flight_from s v = record {
  time = high_time s;
  altitude = s.area.altitude.least;
  own = v;
  intruder = over_square s s.area.intruder.least;
  aim = over_square s s.demand.hi;
  pull = pull_at_high s v;
  hold = hold_at_high s v;
}

-- the high flight: that from the greatest own rate
abbrev pub high_flight : Search → Flight
high_flight s = high_flight_from s (over_square s s.area.own.greatest)

-- ---- the passes: each moves one quantity of the flight at which the pass before it ends

abbrev pub time_pass : Search → Pass Flight
time_pass s = moving (λ t. record (low_flight s) { time = t }) (low_time s) (high_time s) (time_step s)

abbrev pub after_time : Search → Flight
after_time s = record (low_flight s) { time = high_time s }

-- one tick a step
abbrev pub altitude_pass : Search → Pass Flight
altitude_pass s = moving_down (λ h. record (after_time s) { altitude = h }) s.area.altitude.greatest s.area.altitude.least 1

abbrev pub after_altitude : Search → Flight
after_altitude s = record (after_time s) { altitude = s.area.altitude.least }

abbrev pub intruder_pass : Search → Pass Flight
intruder_pass s = moving_down (λ w. record (after_altitude s) { intruder = w })
    (over_square s s.area.intruder.greatest) (over_square s s.area.intruder.least) (rate_step s)

abbrev pub after_intruder : Search → Flight
after_intruder s = record (after_altitude s) { intruder = over_square s s.area.intruder.least }

abbrev pub aim_pass : Search → Pass Flight
aim_pass s = moving_up (λ k. record (after_intruder s) { aim = k }) (over_square s s.demand.lo) (over_square s s.demand.hi) (rate_step s)

abbrev pub after_aim : Search → Flight
after_aim s = record (after_intruder s) { aim = over_square s s.demand.hi }

-- to the pull of the highest climb from the least own rate
abbrev pub pull_pass : Search → Pass Flight
pull_pass s = moving (λ b. record (after_aim s) { pull = b })
    (pull_at_low s) (pull_at_high s (over_square s s.area.own.least)) (pull_step s)

abbrev pub after_pull : Search → Flight
after_pull s = record (after_aim s) { pull = pull_at_high s (over_square s s.area.own.least) }

-- to its hold
abbrev pub hold_pass : Search → Pass Flight
hold_pass s = moving (λ g. record (after_pull s) { hold = g })
    (hold_at_low s) (hold_at_high s (over_square s s.area.own.least)) (time_step s)

-- each flight of the pass over the own rate is the high flight from its rate
abbrev pub own_pass : Search → Pass Flight
own_pass s = moving_up (high_flight_from s) (over_square s s.area.own.least) (over_square s s.area.own.greatest) (rate_step s)

-- the passes, in the order in which they are tried
abbrev pub passes : Search → List (Pass Flight)
passes s = time_pass s ∷ altitude_pass s ∷ intruder_pass s ∷ aim_pass s ∷ pull_pass s ∷ hold_pass s ∷ own_pass s ∷ []

-- the flight that the search finds
abbrev pub IsFound : ℕ → Search → Flight → Type 0
IsFound half s c = search.IsFound (value (unit s)) half (low_flight s) (high_flight s) (passes s) c

-- ---- what may be searched

-- the greatest size of a rate
abbrev pub fastest : ℕ
fastest = unsigned_abs GREATEST_RATE

-- rates within the limits, in order
pub record AreRates (r : Interval) : Type 0 where
  pub least : unsigned_abs r.least ≤ fastest
  pub greatest : unsigned_abs r.greatest ≤ fastest
  pub ordered : r.least ≤ℤ r.greatest

-- a time from 0 to the seconds of the longest window
pub record IsMoment (f : Fraction) : Type 0 where
  pub some : 0 < f.den
  pub least : pos 0 ≤ℤ f.num
  pub most : f.num ≤ℤ pos (WINDOW_SECONDS * f.den)

-- a demand that can be met, of aims within the limits, and an area in order, of rates within them
pub record IsSearch (s : Search) : Type 0 where
  pub demand : CanBeMet s.demand
  pub aims : AreRates (record { least = s.demand.lo; greatest = s.demand.hi })
  pub altitude : s.area.altitude.least ≤ℤ s.area.altitude.greatest
  pub own : AreRates s.area.own
  pub intruder : AreRates s.area.intruder
  pub low : IsMoment s.low
  pub high : IsMoment s.high

-- the two times are in the window
pub record IsTimed (s : Search) (w : Times) : Type 0 where
  pub low_after : IsAtMost w.from s.low
  pub low_before : IsAtMost s.low w.to
  pub high_after : IsAtMost w.from s.high
  pub high_before : IsAtMost s.high w.to

-- the low flight is not above the puck, and the high flight is not below it
pub record CanMeet (half : ℕ) (s : Search) : Type 0 where
  pub low : (value (unit s) (low_flight s)).num ≤ℤ pos (half * (value (unit s) (low_flight s)).den)
  pub high : neg_ℤ (pos (half * (value (unit s) (high_flight s)).den)) ≤ℤ (value (unit s) (high_flight s)).num
