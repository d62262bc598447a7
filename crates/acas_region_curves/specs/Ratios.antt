-- Fractions that need not be in lowest terms, small enough for products of 128 bits.
use Rattle.std.specs.Prelude.{◌*◌, ◌^◌, ◌<◌, ◌≤◌, unsigned_abs}
use Rattle.acas_frac.specs.Fraction.{Fraction}
use Rattle.acas_areas.specs.Sizes.{shared_parts}

-- a fraction with a numerator of at most 2 * 10^30 in size and a denominator from 1 to 10^18
pub record IsRatio (f : Fraction) : Type 0 where
  pub some : 0 < f.den
  pub den_small : f.den ≤ 10 ^ 18
  pub num_small : unsigned_abs f.num ≤ 2 * 10 ^ 30

-- so small that the cross products with each ratio fit: a numerator of at most 10^15 in size, over what rates are over at most
pub record IsShort (f : Fraction) : Type 0 where
  pub den_small : f.den ≤ shared_parts
  pub num_small : unsigned_abs f.num ≤ 10 ^ 15
