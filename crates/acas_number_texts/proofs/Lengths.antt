-- How many bytes the texts of numbers of millionths have.
use Rattle.std.proofs.Common.{◌≡◌, ℕ, ◌/◌, ◌^◌, ◌≤◌, ℤ, pos, negsuc, unsigned_abs, ◌∷◌, ◌++◌, length, refl, arith, length-append}
use Rattle.std.specs.Fmt.{decimal}
use Rattle.std.proofs.lemmas.Fmt.{length-decimal-le_wide}
use Rattle.acas_outside.specs.Printed.{millionths_text, sign_text, six_digits}

length_sign_text_le : (z : ℤ) → length (sign_text z) ≤ 1
length_sign_text_le (pos n) = omega arith
length_sign_text_le (negsuc n) = omega arith

length_six_digits : (n : ℕ) → length (six_digits n) ≡ 6
unfolding six_digits
length_six_digits n = refl

-- a number of at most 10^30 millionths has at most 33: a sign, 25 digits, a point and six digits
pub length_millionths_le : (z : ℤ) → unsigned_abs z ≤ 10 ^ 30 → length (millionths_text z) ≤ 33
length_millionths_le z small =
    let n = unsigned_abs z in
    let whole : length (decimal (n / 1000000)) ≤ 25 = length-decimal-le_wide 25 (n / 1000000) (omega arith) (omega (arith, small)) (omega (arith, small)) in
    omega (
      arith,
      whole,
      length_sign_text_le z,
      length_six_digits n,
      length-append (sign_text z ++ decimal (n / 1000000)) (46 ∷ six_digits n),
      length-append (sign_text z) (decimal (n / 1000000)),
    )
