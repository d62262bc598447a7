-- How many bytes the parts of a fraction's text have.
use Rattle.std.proofs.Common.{◌≡◌, ℕ, suc, ◌^◌, ◌<◌, ◌≤◌, ℤ, pos, negsuc, unsigned_abs, length, arith, to_z, of_z}
use Rattle.std.proofs.lemmas.Int.{ints, to_z-of_z}
use Rattle.std.specs.Fmt.{decimal, signed_decimal}
use Rattle.std.proofs.lemmas.Fmt.{length-decimal-le_wide}
use mir.Val.{SFits}
use mir.Syntax.{w128}
use Rattle.acas_frac.specs.Fraction.{Fraction, IsFrac}

length_signed : (z : ℤ) → unsigned_abs z ≤ 10 ^ 24 → length (signed_decimal z) ≤ 26
length_signed (pos n) small =
    omega (arith, length-decimal-le_wide 25 n (omega arith) (omega (arith, small)) (omega (arith, small)))
length_signed (negsuc n) small =
    omega (arith, length-decimal-le_wide 25 (suc n) (omega arith) (omega (arith, small)) (omega (arith, small)))

-- the numerator: a sign and 25 digits
pub length_num : (f : Fraction) (z : ℤ) → IsFrac f → z ≡ f.num → length (signed_decimal (to_z w128 (of_z w128 z))) ≤ 26
length_num f z bounds same =
    let small : unsigned_abs z ≤ 10 ^ 24 = rw same bounds.num_small in
    let fits : SFits w128 z = omega (arith, ints, small) in
    rw (to_z-of_z w128 z fits) (length_signed z small)

-- the denominator: 14 digits
pub length_den : (f : Fraction) (z : ℤ) → IsFrac f → z ≡ pos f.den → length (signed_decimal (to_z w128 (of_z w128 z))) ≤ 14
length_den f z bounds same =
    let small : unsigned_abs z ≤ 10 ^ 13 = rw same bounds.den_small in
    let fits : SFits w128 z = omega (arith, ints, small) in
    let short : length (decimal f.den) ≤ 14 =
    length-decimal-le_wide 14 f.den (omega arith) (omega (arith, bounds.den_small)) (omega (arith, bounds.den_small)) in
    rw (to_z-of_z w128 z fits) (rw same short)

-- a number of 64 bits: 20 digits
pub length_count : (n : ℕ) (z : ℤ) → n < 2 ^ 64 → z ≡ pos n → length (signed_decimal (to_z w128 (of_z w128 z))) ≤ 20
length_count n z small same =
    let fits : SFits w128 z = omega (arith, ints, same) in
    let short : length (decimal n) ≤ 20 = length-decimal-le_wide 20 n (omega arith) (omega (arith, small)) (omega (arith, small)) in
    rw (to_z-of_z w128 z fits) (rw same short)

-- one with a sign: the sign and 19 digits
length_altitude : (z : ℤ) → unsigned_abs z ≤ 2 ^ 63 → length (signed_decimal z) ≤ 20
length_altitude (pos n) small =
    omega (arith, length-decimal-le_wide 19 n (omega arith) (omega (arith, small)) (omega (arith, small)))
length_altitude (negsuc n) small =
    omega (arith, length-decimal-le_wide 19 (suc n) (omega arith) (omega (arith, small)) (omega (arith, small)))

pub length_wide : (z : ℤ) → unsigned_abs z ≤ 2 ^ 63 → length (signed_decimal (to_z w128 (of_z w128 z))) ≤ 20
length_wide z small =
    let fits : SFits w128 z = omega (arith, ints, small) in
    rw (to_z-of_z w128 z fits) (length_altitude z small)
