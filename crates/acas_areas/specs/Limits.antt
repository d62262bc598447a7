-- The numbers that the calls take. A fraction is over d at most where its denominator, in lowest terms, is at most d.
use Rattle.std.specs.Prelude.{◌≡◌, ℕ, ◌*◌, ◌<◌, ◌≤◌, ◌⊎◌, pos, ◌+ℤ◌, ◌*ℤ◌, ◌≤ℤ◌, unsigned_abs}
use Rattle.acas_units.specs.declared.limits.TheConstants.{GREATEST_ALTITUDE, GREATEST_RATE, LEAST_PULL, GREATEST_LIMIT, GREATEST_DELAY, LEAST_CLOSING, GREATEST_CLOSING, WINDOW_SECONDS, LEAST_BOX_RANGE}
use Rattle.acas_units.specs.declared.ticks.TheConstants.{TICKS_PER_FOOT}
use Rattle.acas_units.specs.declared.span.Span.{Span}
use Rattle.acas_spec.specs.Model.{ModelData}
use Rattle.acas_frac.specs.Fraction.{Fraction}
use Rattle.acas_flight.specs.State.{Interval}
use Rattle.acas_flight.specs.Window.{Times}
use Rattle.acas_flight.specs.Clear.{Area}
use Rattle.acas_flight.specs.Values.{IsAtMost}
use Rattle.acas_areas.specs.declared.fineness.TheConstants.{RATE_PARTS, PULL_PARTS, HOLD_PARTS, TIME_PARTS}

-- ---- curves

abbrev pub IsWhole : Fraction → Type 0
IsWhole f = f.den ≡ 1

-- a rate of the greatest size at most, over RATE_PARTS at most
pub record IsRate (f : Fraction) : Type 0 where
  pub some : 0 < f.den
  pub den : f.den ≤ RATE_PARTS
  pub size : unsigned_abs f.num ≤ unsigned_abs GREATEST_RATE * f.den

-- a pull from the least to the greatest limit, over PULL_PARTS at most
pub record IsPull (f : Fraction) : Type 0 where
  pub some : 0 < f.den
  pub den : f.den ≤ PULL_PARTS
  pub least : pos (LEAST_PULL * f.den) ≤ℤ f.num
  pub greatest : f.num ≤ℤ pos (GREATEST_LIMIT * f.den)

-- a hold from 0 to the greatest delay, over HOLD_PARTS at most
pub record IsHold (f : Fraction) : Type 0 where
  pub some : 0 < f.den
  pub den : f.den ≤ HOLD_PARTS
  pub least : pos 0 ≤ℤ f.num
  pub greatest : f.num ≤ℤ pos (GREATEST_DELAY * f.den)

-- a time from 0 to the seconds of a window, over so much at most
pub record IsTimeOver (most : ℕ) (f : Fraction) : Type 0 where
  pub some : 0 < f.den
  pub den : f.den ≤ most
  pub least : pos 0 ≤ℤ f.num
  pub greatest : f.num ≤ℤ pos (WINDOW_SECONDS * f.den)

abbrev pub IsTime : Fraction → Type 0
IsTime f = IsTimeOver TIME_PARTS f

-- an end of a window: it is over a closing speed
abbrev pub IsEnd : Fraction → Type 0
IsEnd f = IsTimeOver GREATEST_CLOSING f

abbrev pub AreWhole : Fraction → Fraction → Fraction → Type 0
AreWhole f g h = IsWhole f × IsWhole g × IsWhole h

-- at most one of the three is not whole
abbrev pub IsOneAtMostNotWhole : Fraction → Fraction → Fraction → Type 0
IsOneAtMostNotWhole f g h = (IsWhole f × IsWhole g) ⊎ ((IsWhole f × IsWhole h) ⊎ (IsWhole g × IsWhole h))

-- what `approach` takes: a start rate, an aim, a pull and a time, of which few are fine at once
pub record IsCurve (v k b t : Fraction) : Type 0 where
  pub start : IsRate v
  pub aim : IsRate k
  pub pull : IsPull b
  pub time : IsTime t
  pub fine : AreWhole v k b ⊎ ((t.den ≤ GREATEST_CLOSING) × IsOneAtMostNotWhole v k b)

-- what `held` takes: a hold besides
pub record IsHeldCurve (v k b g t : Fraction) : Type 0 where
  pub curve : IsCurve v k b t
  pub hold : IsHold g
  pub hold_fine : IsWhole g ⊎ (AreWhole v k b × (t.den ≤ GREATEST_CLOSING))

-- what `lowest` and `highest` take: a start rate and a time that are not both fine
pub record IsStart (v t : Fraction) : Type 0 where
  pub rate : IsRate v
  pub time : IsTime t
  pub fine : IsWhole v ⊎ (t.den ≤ GREATEST_CLOSING)

-- ---- windows

abbrev pub times_from : Fraction → Fraction → Times
times_from from to = record { from = from; to = to }

-- the ends of a window, in order
pub record AreEnds (w : Times) : Type 0 where
  pub from : IsEnd w.from
  pub to : IsEnd w.to
  pub order : IsAtMost w.from w.to

abbrev pub interval_of : Span → Interval
interval_of s = record { least = s.least; greatest = s.greatest }

-- ranges and closing speeds of a box: the greatest range and the radius are flown in the seconds of a window at the least speed
pub record IsFlownInTime (m : ModelData) (ranges speeds : Interval) : Type 0 where
  pub ahead : LEAST_BOX_RANGE ≤ℤ ranges.least
  pub slow : pos LEAST_CLOSING ≤ℤ speeds.least
  pub fast : speeds.greatest ≤ℤ pos GREATEST_CLOSING
  pub short : (ranges.greatest +ℤ pos m.radius) ≤ℤ (pos WINDOW_SECONDS *ℤ speeds.least)

-- ---- boxes

abbrev pub area_from : Span → Span → Span → Area
area_from h v0 v1 = record { altitude = interval_of h; own = interval_of v0; intruder = interval_of v1 }

-- both ends are of so much in size at most
pub record IsSmall (most : ℕ) (s : Interval) : Type 0 where
  pub least : unsigned_abs s.least ≤ most
  pub greatest : unsigned_abs s.greatest ≤ most

-- the area is within the limits of altitudes and rates
pub record IsArea (area : Area) : Type 0 where
  pub altitude : IsSmall (TICKS_PER_FOOT * unsigned_abs GREATEST_ALTITUDE) area.altitude
  pub own : IsSmall (unsigned_abs GREATEST_RATE) area.own
  pub intruder : IsSmall (unsigned_abs GREATEST_RATE) area.intruder
