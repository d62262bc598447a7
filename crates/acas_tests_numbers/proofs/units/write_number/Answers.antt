use Rattle.std.proofs.Common.{◌<◌, ◌^◌, length, unsigned_abs, ap, arith}
use Rattle.std.proofs.lemmas.Int.{ints, to_z-of_z}
use mir.Val.{SFits}
use mir.Syntax.{w128}
use Rattle.acas_outside.proofs.Lengths.{length_signed_decimal_le}
use Rattle.acas_tests_numbers.proofs.units.write_number.Goals as goal

pub number-requires : goal.number-requires
number-requires c =
    let r : SFits w128 c.args.value = c.ranges.value in
    let small : unsigned_abs c.args.value < 2 ^ 128 = omega (arith, ints) in
    rw (to_z-of_z w128 c.args.value r) (omega (arith, ap length c.clear.ensures, length_signed_decimal_le c.args.value small))
