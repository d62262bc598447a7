-- The intruder's part of a course in fractions, and the value of a course as flown.
use Rattle.std.specs.Prelude.{ℕ, ◌*◌, ℤ, pos, ◌-ℤ◌, ◌*ℤ◌}
use Rattle.acas_frac.specs.Fraction.{Fraction, difference_of, whole_of}
use Rattle.acas_flight.specs.Values.{IsOver}
use Rattle.acas_areas.specs.Limits.{IsCurve}
use Rattle.acas_rulings.specs.Hunt.{Course}
use Rattle.acas_meeting_search.specs.declared.parts.Turn.{Turn}
use Rattle.acas_meeting_search.specs.declared.parts.Outcome.{Outcome}

-- the turn lasts the time t over q, and goes from the rate w over q^2 to the goal m
pub record IsTurnFor (q t : ℕ) (w m : ℤ) (turn : Turn) : Type 0 where
  pub time : IsOver q (pos t) turn.time
  pub intruder : IsOver (q * q) w turn.intruder
  pub goal : IsOver (q * q) m turn.goal

-- the turn is that of the course over q
abbrev pub IsTurnOf : ℕ → Course → Turn → Type 0
IsTurnOf q c turn = IsTurnFor q c.own.time c.own.intruder c.goal turn

-- the turn with the acceleration is within the limits of the curves, so that its climb is an exact fraction
abbrev pub CanBeFlownWith : ℤ → Turn → Type 0
CanBeFlownWith accel turn = IsCurve turn.intruder turn.goal (whole_of accel) turn.time

-- the own climb less the intruder's climb and its altitude at the start
abbrev pub value_of : ℤ → Fraction → Fraction → Fraction
value_of altitude climb ascent =
    let d = difference_of climb ascent in
    record { num = d.num -ℤ altitude *ℤ pos d.den; den = d.den }

-- the value of a course as flown
abbrev pub value_in : Outcome → Fraction
value_in o = value_of o.flown.plan.altitude o.climb o.ascent
