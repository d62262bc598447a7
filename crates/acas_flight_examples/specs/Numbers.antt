-- Fractions and parts of flights, as numbers that are written out.
use Rattle.std.specs.Prelude.{ℕ, ℤ, pos, neg_ℤ}
use Rattle.acas_frac.specs.Fraction.{Fraction}
use Rattle.acas_flight.specs.Response.{Segment}
use Rattle.acas_flight.specs.State.{Interval, State}
use Rattle.acas_flight.specs.Clear.{Area}
use Rattle.acas_flight.specs.Window.{Times}

-- the number that is n below 0
abbrev pub minus : ℕ → ℤ
minus n = neg_ℤ (pos n)

-- n over d
abbrev pub over : ℤ → ℕ → Fraction
over n d = record { num = n; den = d }

-- a duration at a constant acceleration
abbrev pub segment : ℕ → ℤ → Segment
segment duration acceleration = record { duration = duration; acceleration = acceleration }

-- the numbers from one to another
abbrev pub from_to : ℤ → ℤ → Interval
from_to least greatest = record { least = least; greatest = greatest }

-- the times from one to another
abbrev pub times : Fraction → Fraction → Times
times from to = record { from = from; to = to }

-- a state of this range, closing speed, relative altitude, own rate and intruder rate
abbrev pub state : ℤ → ℤ → ℤ → ℤ → ℤ → State
state range closing altitude own intruder = record { range = range; closing = closing; altitude = altitude; own = own; intruder = intruder }

-- an area of these altitudes, own rates and intruder rates
abbrev pub area : Interval → Interval → Interval → Area
area altitude own intruder = record { altitude = altitude; own = own; intruder = intruder }
