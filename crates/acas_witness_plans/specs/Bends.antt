-- The time of a bend, and differences of times, by cross products.
use Rattle.std.specs.Prelude.{◌≡◌, ◌*◌, pos, ◌-ℤ◌, ◌*ℤ◌, unsigned_abs}
use Rattle.acas_frac.specs.Fraction.{Fraction}

-- y is the time in which the pull b changes the rate from v to k
pub record IsBend (v k b y : Fraction) : Type 0 where
  pub over : y.num *ℤ pos (v.den * k.den * unsigned_abs b.num) ≡ pos (unsigned_abs ((k.num *ℤ pos v.den) -ℤ (v.num *ℤ pos k.den)) * b.den) *ℤ pos y.den

-- y is f less g
pub record IsDifference (f g y : Fraction) : Type 0 where
  pub over : y.num *ℤ pos (f.den * g.den) ≡ ((f.num *ℤ pos g.den) -ℤ (g.num *ℤ pos f.den)) *ℤ pos y.den
