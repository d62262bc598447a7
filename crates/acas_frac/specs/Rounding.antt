-- A quotient rounded to a whole number.
use Rattle.std.specs.Prelude.{◌≡◌, ◌^◌, ◌≤◌, ◌⊎◌, ℤ, pos, ◌<ℤ◌, neg_ℤ, unsigned_abs}
use Rattle.std.specs.Int.{int_div_euclid}

-- the greatest whole m with m * c <= a, for c above 0
abbrev pub down : ℤ → ℤ → ℤ
down a c = int_div_euclid a c

-- the least whole m with a <= m * c, for c above 0
abbrev pub up : ℤ → ℤ → ℤ
up a c = neg_ℤ (down (neg_ℤ a) c)

-- a way to round is one of the two
abbrev pub IsRounding : (ℤ → ℤ → ℤ) → Type 0
IsRounding round = (round ≡ down) ⊎ (round ≡ up)

-- the denominator is above 0, and both numbers are at most 10^37 in size
pub record IsQuotient (num den : ℤ) : Type 0 where
  pub some : pos 0 <ℤ den
  pub small_num : unsigned_abs num ≤ 10 ^ 37
  pub small_den : unsigned_abs den ≤ 10 ^ 37
