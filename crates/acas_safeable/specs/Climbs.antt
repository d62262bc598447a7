-- How large a climb within a second is.
use Rattle.std.specs.Prelude.{ℕ, ◌*◌, ◌^◌, ◌<◌, ◌≤◌, ℤ, unsigned_abs}
use Rattle.acas_units.specs.declared.limits.TheConstants.{GREATEST_LIMIT}

-- a climb times the pull of its curve, and that pull
pub record IsClimb (times_pull : ℤ) (pull : ℕ) : Type 0 where
  pub size : unsigned_abs times_pull ≤ 2 * 10 ^ 30
  pub some : 0 < pull
  pub few : pull ≤ GREATEST_LIMIT
