-- Values of flights: how far the own aircraft ends above the intruder, in ticks.
use Rattle.std.specs.Prelude.{ℕ, ◌*◌, pos, ◌+ℤ◌, ◌*ℤ◌, neg_ℤ, ◌≤ℤ◌, ◌<ℤ◌, Bool, int_lt}
use Rattle.acas_units.specs.declared.limits.TheConstants.{LEAST_HALF_HEIGHT}
use Rattle.acas_units.specs.declared.ticks.TheConstants.{TICKS_PER_FOOT}
use Rattle.acas_frac.specs.Fraction.{Fraction}

-- the flight is below: more than the half height
abbrev pub is_below : ℕ → Fraction → Bool
is_below half f = int_lt f.num (neg_ℤ (pos (half * f.den)))

-- the flight is in contact: within the half height, both ends included
pub record IsWithinHalf (half : ℕ) (f : Fraction) : Type 0 where
  pub not_below : neg_ℤ (pos (half * f.den)) ≤ℤ f.num
  pub not_above : f.num ≤ℤ pos (half * f.den)

-- how thick the thinnest puck is, in ticks
abbrev pub thinnest : ℕ
thinnest = 2 * (TICKS_PER_FOOT * LEAST_HALF_HEIGHT)

-- g is less than so many ticks above f
abbrev pub IsLessThanAbove : ℕ → Fraction → Fraction → Type 0
IsLessThanAbove ticks f g = (g.num *ℤ pos f.den) <ℤ ((f.num *ℤ pos g.den) +ℤ pos (ticks * (f.den * g.den)))
