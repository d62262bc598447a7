-- Plans: flights of the search in fractions.
use Rattle.std.specs.Prelude.{◌≡◌, ℕ, ◌*◌, ◌/◌, ◌<◌, ◌≤◌, ℤ, pos, ◌+ℤ◌, ◌-ℤ◌, ◌*ℤ◌, unsigned_abs}
use Rattle.acas_frac.specs.Fraction.{Fraction, Same}
use Rattle.acas_flight.specs.Values.{IsOver}
use Rattle.acas_areas.specs.Limits.{IsHeldCurve, IsRate, IsWhole}
use Rattle.acas_areas.specs.Sizes.{altitude_size}
use Rattle.acas_areas.specs.declared.steps.TheConstants.{TIME_STEPS, PULL_STEPS}
use Rattle.acas_areas.specs.Flights.{Flight, value}
use Rattle.acas_areas.specs.Passes.{toward}
use Rattle.acas_witness_plans.specs.declared.plan.Plan.{Plan}
use Rattle.acas_witness_plans.specs.declared.plan.Outcome.{Outcome}

-- the plan's fractions are the flight's numbers over q
pub record IsPlanOf (q : ℕ) (c : Flight) (p : Plan) : Type 0 where
  pub time : IsOver q (pos c.time) p.time
  pub altitude : p.altitude ≡ c.altitude
  pub own : IsOver (q * q) c.own p.own
  pub intruder : IsOver (q * q) c.intruder p.intruder
  pub aim : IsOver (q * q) c.aim p.aim
  pub pull : IsOver q (pos c.pull) p.pull
  pub hold : IsOver q (pos c.hold) p.hold

-- the plan is within the limits of the curves, so that its climb is an exact fraction
pub record CanBeFlown (p : Plan) : Type 0 where
  pub limits : IsHeldCurve p.own p.aim p.pull p.hold p.time
  pub intruder : IsRate p.intruder
  pub altitude : unsigned_abs p.altitude ≤ altitude_size

-- all but the time and the altitude are whole
pub record IsWholePlan (p : Plan) : Type 0 where
  pub own : IsWhole p.own
  pub intruder : IsWhole p.intruder
  pub aim : IsWhole p.aim
  pub pull : IsWhole p.pull
  pub hold : IsWhole p.hold

-- y is where an intruder ends after the time t that is at first the altitude h above and keeps the rate x
pub record IsIntruderEnd (h : ℤ) (x t y : Fraction) : Type 0 where
  pub over : y.num *ℤ pos (x.den * t.den) ≡ ((h *ℤ pos (x.den * t.den)) +ℤ ((pos 2 *ℤ x.num) *ℤ t.num)) *ℤ pos y.den

-- the climb less where the intruder ends
abbrev pub clearance_of : Fraction → Fraction → Fraction
clearance_of climb end = record { num = (climb.num *ℤ pos end.den) -ℤ (end.num *ℤ pos climb.den); den = climb.den * end.den }

-- the time of that number on the way from one time to another in steps, over the common denominator of a search between them
abbrev pub time_toward : Fraction → Fraction → ℕ → ℕ
time_toward f g i = toward (unsigned_abs f.num * (PULL_STEPS * g.den)) (unsigned_abs g.num * (PULL_STEPS * f.den)) (i * ((PULL_STEPS / TIME_STEPS) * (f.den * g.den)))

-- the flight as flown: its plan, and its value
pub record IsOutcomeOf (q : ℕ) (c : Flight) (o : Outcome) : Type 0 where
  pub point : IsPlanOf q c o.plan
  pub flown : CanBeFlown o.plan
  pub same : Same (clearance_of o.climb o.intruder_end) (value q c)
  pub some : 0 < (clearance_of o.climb o.intruder_end).den
