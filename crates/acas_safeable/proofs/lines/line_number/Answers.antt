use Rattle.std.proofs.Common.{◌≡◌, ℕ, ◌<◌, ◌≤◌, ◌^◌, ℤ, pos, unsigned_abs, length, arith, length-append, w64, to_z, of_z}
use Rattle.std.specs.Fmt.{signed_decimal}
use Rattle.std.proofs.lemmas.Int.{ints, to_z-of_z}
use mir.Val.{Fits, SFits}
use mir.Syntax.{w128}
use Rattle.acas_outside.proofs.Lengths.{length_signed_decimal_le}
use Rattle.acas_safeable.proofs.lines.line_number.Goals as goal

length_number : (n : ℕ) (z : ℤ) → n < 2 ^ 64 → z ≡ pos n → length (signed_decimal (to_z w128 (of_z w128 z))) ≤ 40
length_number n z small same =
    let fits : SFits w128 z = omega (arith, ints, same) in
    let few : unsigned_abs z < 2 ^ 128 = omega (arith, ints, same) in
    rw (to_z-of_z w128 z fits) (length_signed_decimal_le z few)

pub number-requires : goal.number-requires
number-requires c =
    let v : Fits w64 c.args.value = c.ranges.value in
    let small : c.args.value < 2 ^ 64 = omega arith in
    grind (arith, length-append, c.requires, c.push.ensures, length_number c.args.value c.from.result small c.from.ensures)

pub returns-clause-room : goal.returns-clause-room
returns-clause-room c =
    let v : Fits w64 c.args.value = c.ranges.value in
    let small : c.args.value < 2 ^ 64 = omega arith in
    grind (arith, length-append, c.push.ensures, c.number.ensures, length_number c.args.value c.from.result small c.from.ensures)
