-- The greatest gaps of the axes, and the greatest weight of a corner.
use Rattle.std.specs.Prelude.{ℕ, ◌*◌, unsigned_abs}
use Rattle.acas_units.specs.declared.limits.TheConstants.{GREATEST_ALTITUDE, GREATEST_RATE}
use Rattle.acas_units.specs.declared.ticks.TheConstants.{TICKS_PER_FOOT}

-- from the least to the greatest altitude, in ticks
abbrev pub altitude_gap : ℕ
altitude_gap = 2 * (TICKS_PER_FOOT * unsigned_abs GREATEST_ALTITUDE)

-- from the least to the greatest rate
abbrev pub rate_gap : ℕ
rate_gap = 2 * unsigned_abs GREATEST_RATE

-- the product of the three gaps of the largest cell
abbrev pub greatest_weight : ℕ
greatest_weight = altitude_gap * rate_gap * rate_gap
