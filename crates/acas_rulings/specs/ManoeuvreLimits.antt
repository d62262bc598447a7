-- The limits of what an intruder may do.
use Rattle.std.specs.Prelude.{ℤ, pos, ◌≤ℤ◌}
use Rattle.acas_units.specs.declared.limits.TheConstants.{GREATEST_LIMIT, GREATEST_RATE}

-- an acceleration and a rate are at least 1, and at most the greatest of a pilot's response and of an own rate
pub record IsManoeuvre (accel rate : ℤ) : Type 0 where
  pub least_accel : pos 1 ≤ℤ accel
  pub greatest_accel : accel ≤ℤ pos GREATEST_LIMIT
  pub least_rate : pos 1 ≤ℤ rate
  pub greatest_rate : rate ≤ℤ GREATEST_RATE
