use Rattle.std.proofs.Common.{length, ap, arith}
use Rattle.std.proofs.lemmas.Int.{to_z-of_z}
use mir.Val.{SFits}
use mir.Syntax.{w128}
use Rattle.acas_number_texts.proofs.Lengths.{length_millionths_le}
use Rattle.acas_tests_numbers.proofs.units.write_millionths.Goals as goal

pub millionths-requires : goal.millionths-requires
millionths-requires c =
    let r : SFits w128 c.args.value = c.ranges.value in
    rw (to_z-of_z w128 c.args.value r) (omega (arith, ap length c.clear.ensures, length_millionths_le c.args.value c.requires))
