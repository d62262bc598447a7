-- What the functions say of a second: how large its numbers are, and when the range is near.
use Rattle.std.specs.Prelude.{ℕ, ◌≤◌, pos, ◌+ℤ◌, ◌-ℤ◌, ◌<ℤ◌, unsigned_abs}
use Rattle.std.specs.Int.{int_max, int_min}
use Rattle.acas_units.specs.declared.limits.TheConstants.{GREATEST_CLOSING}
use Rattle.acas_replay.specs.declared.parabola.Fractions.{Fractions}
use Rattle.acas_replay.specs.declared.second.Second.{Second}
use Rattle.acas_replay.specs.declared.second.TheConstants.{LARGEST_ALTITUDE, LARGEST_CHANGE, LARGEST_RANGE, LARGEST_RATE}

-- no number of the second is larger than allowed, and the range closes
pub record IsSecond (s : Second) : Type 0 where
  pub range : unsigned_abs s.range ≤ LARGEST_RANGE
  pub some_closing : pos 0 <ℤ s.closing
  pub closing : unsigned_abs s.closing ≤ GREATEST_CLOSING
  pub altitude : unsigned_abs s.altitude ≤ LARGEST_ALTITUDE
  pub rate : unsigned_abs s.rate ≤ LARGEST_RATE
  pub change : unsigned_abs s.change ≤ LARGEST_CHANGE

-- the fractions of the second at which the range is at most the radius, on either side; none are where the last is before the first
abbrev pub near_fractions : ℕ → Second → Fractions
near_fractions radius s = record {
  parts = s.closing;
  first = int_max (s.range -ℤ pos radius) (pos 0);
  last = int_min (s.range +ℤ pos radius) s.closing;
}
