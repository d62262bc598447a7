-- Bounded numbers as the code's 64 bits give them.
use Rattle.std.proofs.Common.{◌≡◌, ◌∙◌, ℕ, ◌+◌, ◌*◌, ◌^◌, ◌<◌, ◌≤◌, ℤ, ◌+ℤ◌, ◌-ℤ◌, ◌*ℤ◌, unsigned_abs, to_z, of_z, arith}
use Rattle.std.specs.Int.{w64}
use Rattle.std.specs.Int.RustNames.{FitsSigned}
use Rattle.std.proofs.lemmas.Int.{ints}
use lib.Signed.{mag}
use Rattle.acas_frac.proofs.Bounds.{product_size}
use Rattle.acas_units.specs.declared.limits.TheConstants.{GREATEST_CLOSING}
use Rattle.acas_replay.specs.Parabola.{AreFractions, half_slope_at, value_at}
use Rattle.acas_replay.specs.declared.parabola.Fractions.{Fractions}
use Rattle.acas_replay.specs.declared.parabola.Parabola.{Parabola}

pub whole : (z : ℤ) (m : ℕ) → unsigned_abs z ≤ m → m < 2 ^ 63 → to_z w64 (of_z w64 z) ≡ z
whole z m h k = omega (arith, ints)

pub fits : (z : ℤ) → mag z < 2 ^ 63 → to_z w64 (of_z w64 z) ≡ z
fits z h = omega (arith, ints, h)

pub whole_product : (a b : ℤ) (m n : ℕ) → unsigned_abs a ≤ m → unsigned_abs b ≤ n → m < 2 ^ 63 → n < 2 ^ 63 → m * n < 2 ^ 63 →
    to_z w64 (of_z w64 (to_z w64 (of_z w64 a) *ℤ to_z w64 (of_z w64 b))) ≡ a *ℤ b
whole_product a b m n h k i j l = rw (whole a m h i, whole b n k j) (whole (a *ℤ b) (m * n) (product_size a b m n h k) l)

pub whole_sum : (a b : ℤ) (m n : ℕ) → unsigned_abs a ≤ m → unsigned_abs b ≤ n → m + n < 2 ^ 63 →
    to_z w64 (of_z w64 (to_z w64 (of_z w64 a) +ℤ to_z w64 (of_z w64 b))) ≡ a +ℤ b
whole_sum a b m n h k l = omega (arith, ints)

pub whole_difference : (a b : ℤ) (m n : ℕ) → unsigned_abs a ≤ m → unsigned_abs b ≤ n → m + n < 2 ^ 63 →
    to_z w64 (of_z w64 (to_z w64 (of_z w64 a) -ℤ to_z w64 (of_z w64 b))) ≡ a -ℤ b
whole_difference a b m n h k l = omega (arith, ints)

-- the sum of three
pub whole_sum_three : (a b c : ℤ) (m n p : ℕ) → unsigned_abs a ≤ m → unsigned_abs b ≤ n → unsigned_abs c ≤ p → m + n + p < 2 ^ 63 →
    to_z w64 (of_z w64 (to_z w64 (of_z w64 (to_z w64 (of_z w64 a) +ℤ to_z w64 (of_z w64 b))) +ℤ to_z w64 (of_z w64 c))) ≡ a +ℤ b +ℤ c
whole_sum_three a b c m n p h k j l = omega (arith, ints)

pub sum_three_fits : (a b c : ℤ) (m n p : ℕ) → unsigned_abs a ≤ m → unsigned_abs b ≤ n → unsigned_abs c ≤ p → m + n + p < 2 ^ 63 →
    FitsSigned w64 (to_z w64 (of_z w64 (to_z w64 (of_z w64 a) +ℤ to_z w64 (of_z w64 b))) +ℤ to_z w64 (of_z w64 c))
sum_three_fits a b c m n p h k j l = omega (arith, ints)

-- ---- at one of two fractions

module _ (p : Parabola) (f : Fractions) (n r : ℤ) (are : AreFractions f) (small : unsigned_abs n ≤ GREATEST_CLOSING) where
  pub value_at-whole : mag r < 2 ^ 63 → r ≡ value_at p (to_z w64 (of_z w64 n)) (to_z w64 (of_z w64 f.parts)) → to_z w64 (of_z w64 r) ≡ value_at p n f.parts
  value_at-whole m e = fits r m ∙ rw (whole n GREATEST_CLOSING small (omega arith), whole f.parts GREATEST_CLOSING are.parts (omega arith)) at e

  pub half_slope_at-whole : mag r < 2 ^ 63 → r ≡ half_slope_at p (to_z w64 (of_z w64 n)) (to_z w64 (of_z w64 f.parts)) → to_z w64 (of_z w64 r) ≡ half_slope_at p n f.parts
  half_slope_at-whole m e = fits r m ∙ rw (whole n GREATEST_CLOSING small (omega arith), whole f.parts GREATEST_CLOSING are.parts (omega arith)) at e
