-- How large the numbers of curves are, over common denominators and over those of a window's time.
use Rattle.std.specs.Prelude.{ℕ, ◌*◌, ◌<◌, ◌≤◌, unsigned_abs}
use Rattle.acas_units.specs.declared.limits.TheConstants.{GREATEST_ALTITUDE, GREATEST_RATE, GREATEST_LIMIT, GREATEST_CLOSING, WINDOW_SECONDS}
use Rattle.acas_units.specs.declared.ticks.TheConstants.{TICKS_PER_FOOT}
use Rattle.acas_areas.specs.declared.fineness.TheConstants.{RATE_PARTS, TIME_PARTS}

-- what rates are over at most
abbrev pub shared_parts : ℕ
shared_parts = RATE_PARTS * TIME_PARTS

-- a rate over that
abbrev pub rate_size : ℕ
rate_size = unsigned_abs GREATEST_RATE * shared_parts

-- the way between two
abbrev pub way_size : ℕ
way_size = 2 * rate_size

-- the rate gained with the greatest pull in the longest time
abbrev pub gain_size : ℕ
gain_size = GREATEST_LIMIT * WINDOW_SECONDS * shared_parts

-- the greatest altitude in ticks
abbrev pub altitude_size : ℕ
altitude_size = TICKS_PER_FOOT * unsigned_abs GREATEST_ALTITUDE

-- n/d seconds are a time as long as a window at most, over a closing speed at most; it need not be in lowest terms
pub record IsMoment (n d : ℕ) : Type 0 where
  pub some : 0 < d
  pub den : d ≤ GREATEST_CLOSING
  pub num : n ≤ WINDOW_SECONDS * d
