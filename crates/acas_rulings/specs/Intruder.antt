-- Flights of an intruder that may change its rate.
--
-- All numbers of a flight are whole, over a common denominator q, as those of a response are: durations in seconds and accelerations
-- in ft/min per second are over q, rates in ft/min over q^2, climbs in ticks of 1/120 ft over q^3.
use Rattle.std.specs.Prelude.{ℕ, ◌*◌, ◌<◌, ◌≤◌, List, [], ◌∷◌, ℤ, pos, neg_ℤ, unsigned_abs}
use Rattle.acas_flight.specs.Response.{Segment, Demand, rate_after}
use Rattle.acas_flight.specs.State.{Interval}

-- what an intruder may do: the size of its greatest acceleration, and that of its greatest rate
pub record Manoeuvre : Type 0 where
  pub accel : ℕ
  pub rate : ℕ

-- the same in numbers over q
abbrev pub over : ℕ → Manoeuvre → Manoeuvre
over q may = record { accel = may.accel * q; rate = may.rate * (q * q) }

-- rates of at most that size
pub record RatesFit (may : Manoeuvre) (rates : Interval) : Type 0 where
  pub least : unsigned_abs rates.least ≤ may.rate
  pub greatest : unsigned_abs rates.greatest ≤ may.rate

-- an intruder at the rate v may fly the segment: its acceleration, and its rate at both ends, are at most the greatest
pub record MayFly (may : Manoeuvre) (v : ℤ) (s : Segment) : Type 0 where
  pub lasts : 0 < s.duration
  pub accel : unsigned_abs s.acceleration ≤ may.accel
  pub before : unsigned_abs v ≤ may.rate
  pub after : unsigned_abs (rate_after v s) ≤ may.rate

-- a flight of an intruder that starts at the rate v: it may fly each segment
abbrev pub IsFlown : Manoeuvre → ℤ → List Segment → Type 0
IsFlown may v [] = Unit {0}
IsFlown may v (s ∷ rest) = MayFly may v s × IsFlown may (rate_after v s) rest

-- A pilot who is asked for no more than that flies as the intruder does: at any rate up to the greatest, with any acceleration up to
-- the greatest, and at once.
abbrev pub pilot_of : Manoeuvre → Demand
pilot_of may = record { lo = neg_ℤ (pos may.rate); hi = pos may.rate; pull = may.accel; limit = may.accel; delay = 0 }
