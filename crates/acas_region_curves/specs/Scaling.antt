-- The numbers of a curve over common denominators.
use Rattle.std.specs.Prelude.{◌≡◌, ℕ, ◌*◌, ◌^◌, ◌<◌, ◌≤◌, ℤ, pos, ◌*ℤ◌, unsigned_abs}
use Rattle.acas_units.specs.declared.limits.TheConstants.{WINDOW_SECONDS}
use Rattle.acas_frac.specs.Fraction.{Fraction, ReducesWithinBounds}
use Rattle.acas_flight.specs.Curves.{held}
use Rattle.acas_flight.specs.Values.{IsHeld}
use Rattle.acas_areas.specs.declared.fineness.TheConstants.{TIME_PARTS}
use Rattle.acas_areas.specs.Sizes.{rate_size, gain_size}

-- The curve's value is that of these whole numbers over den, and it is small enough in lowest terms.
pub record IsScaling (v k b g t : Fraction) (vn kn : ℤ) (bn gn tn den : ℕ) : Type 0 where
  pub start : unsigned_abs vn ≤ rate_size
  pub aim : unsigned_abs kn ≤ rate_size
  pub time : tn ≤ WINDOW_SECONDS * TIME_PARTS
  pub flown : bn * tn ≤ gain_size
  pub some : 0 < den
  pub den_small : den ≤ 10 ^ 18
  pub reduces : ReducesWithinBounds (unsigned_abs (held vn kn bn gn tn)) den
  pub exact : (y : Fraction) → y.num *ℤ pos den ≡ held vn kn bn gn tn *ℤ pos y.den → IsHeld v k b g t y
