-- How many bytes the text of a number has.
use Rattle.std.proofs.Common.{◌≡◌, ℕ, ◌<◌, ◌≤◌, ◌^◌, ◌/◌, ◌∷◌, ◌++◌, suc, length, length-append, ℤ, pos, negsuc, unsigned_abs, arith, refl}
use Rattle.std.specs.Fmt.{decimal, signed_decimal}
use Rattle.acas_outside.specs.Printed.{millionths_text, sign_text, six_digits}
use Rattle.std.proofs.lemmas.Fmt.{length-decimal-le, length-decimal-le_wide}

pub length-decimal : (n : ℕ) → n < 2 ^ 64 → length (decimal n) ≤ 20
length-decimal n small = length-decimal-le 20 n (omega arith) (omega arith) small

pub length-signed_decimal : (z : ℤ) → unsigned_abs z ≤ 2 ^ 63 → length (signed_decimal z) ≤ 20
length-signed_decimal (pos n) small = length-decimal n (omega arith)
length-signed_decimal (negsuc n) small =
    let digits = length-decimal-le 19 (suc n) (omega arith) (omega arith) (omega arith) in
    omega arith

length-six_digits : (n : ℕ) → length (six_digits n) ≡ 6
unfolding six_digits
length-six_digits n = refl

length-sign_text : (z : ℤ) → length (sign_text z) ≤ 1
length-sign_text (pos n) = omega arith
length-sign_text (negsuc n) = omega arith

pub length-millionths_text : (z : ℤ) → unsigned_abs z ≤ 2 ^ 63 → length (millionths_text z) ≤ 23
length-millionths_text z small =
    let whole = decimal (unsigned_abs z / 1000000) in
    let digits : length (decimal (unsigned_abs z / 1000000)) ≤ 15 = length-decimal-le 15 (unsigned_abs z / 1000000) (omega arith) (omega arith) (omega arith) in
    omega (arith, length-append (sign_text z) (decimal (unsigned_abs z / 1000000)), length-append (sign_text z ++ decimal (unsigned_abs z / 1000000)) (46 ∷ six_digits (unsigned_abs z)), length-sign_text z, length-six_digits (unsigned_abs z))

pub length-wide_millionths : (z : ℤ) → unsigned_abs z ≤ 2 ^ 127 → length (millionths_text z) ≤ 41
length-wide_millionths z small =
    let whole = decimal (unsigned_abs z / 1000000) in
    let digits : length (decimal (unsigned_abs z / 1000000)) ≤ 33 = length-decimal-le_wide 33 (unsigned_abs z / 1000000) (omega arith) (omega arith) (omega arith) in
    omega (arith, length-append (sign_text z) (decimal (unsigned_abs z / 1000000)), length-append (sign_text z ++ decimal (unsigned_abs z / 1000000)) (46 ∷ six_digits (unsigned_abs z)), length-sign_text z, length-six_digits (unsigned_abs z))
