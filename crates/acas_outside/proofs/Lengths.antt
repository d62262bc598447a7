-- How many bytes the texts of numbers have.
use Rattle.std.proofs.Common.{suc, ◌^◌, ◌<◌, ◌≤◌, ℤ, pos, negsuc, unsigned_abs, length, arith}
use Rattle.std.specs.Fmt.{signed_decimal}
use Rattle.std.proofs.lemmas.Fmt.{length-decimal-le_wide}

-- a whole number of 128 bits has at most 40: a sign and 39 digits
pub length_signed_decimal_le : (z : ℤ) → unsigned_abs z < 2 ^ 128 → length (signed_decimal z) ≤ 40
length_signed_decimal_le (pos n) small =
    omega (arith, length-decimal-le_wide 39 n (omega arith) (omega (arith, small)) (omega (arith, small)))
length_signed_decimal_le (negsuc n) small =
    omega (arith, length-decimal-le_wide 39 (suc n) (omega arith) (omega (arith, small)) (omega (arith, small)))
