-- A divisor that is known beforehand.
use Rattle.std.specs.Prelude.{◌≡◌, ◌+◌, ◌-◌, ◌/◌, ◌^◌, ◌<◌, ◌≤◌}
use Rattle.acas_frac.specs.declared.divisor.Divisor.{Divisor}

-- A divisor is above 0. Its shift is the number of its binary digits below the highest one, so that the divisor is at least 2 to the
-- shift and less than twice that; and a divisor has at most 64 digits. Its multiplier says how often it goes into the greatest
-- number of 64 digits more than the shift, rounded down.
pub record IsDivisor (d : Divisor) : Type 0 where
  pub some : 0 < d.by
  pub shift : d.shift < 64
  pub least : 2 ^ d.shift ≤ d.by
  pub below : d.by < 2 ^ (d.shift + 1)
  pub multiplier : d.multiplier ≡ (2 ^ (64 + d.shift) - 1) / d.by
