-- An intruder within the limits, that goes up.
use Rattle.std.specs.Prelude.{ℕ, ◌<◌, ◌≤◌, ℤ, ◌≤ℤ◌, unsigned_abs}
use Rattle.acas_units.specs.declared.limits.TheConstants.{GREATEST_RATE, GREATEST_LIMIT}

-- an intruder goes up from one rate to another, with an acceleration of that size
pub record GoesUp (from to : ℤ) (by : ℕ) : Type 0 where
  pub goal : unsigned_abs to ≤ unsigned_abs GREATEST_RATE
  pub some_accel : 0 < by
  pub accel : by ≤ GREATEST_LIMIT
  pub up : from ≤ℤ to
