use Rattle.std.proofs.Common.{◌<◌, ◌^◌, arith, length-append, w64}
use mir.Val.{Fits}
use Rattle.acas_report_lines.proofs.Lengths.{length_count}
use Rattle.acas_report_lines.proofs.fields.line_count.Goals as goal

pub number-requires : goal.number-requires
number-requires c =
    let v : Fits w64 c.args.value = c.ranges.value in
    let small : c.args.value < 2 ^ 64 = omega arith in
    grind (arith, length-append, c.requires, c.push.ensures, length_count c.args.value c.from.result small c.from.ensures)

pub returns-clause-room : goal.returns-clause-room
returns-clause-room c =
    let v : Fits w64 c.args.value = c.ranges.value in
    let small : c.args.value < 2 ^ 64 = omega arith in
    grind (arith, length-append, c.push.ensures, c.number.ensures, length_count c.args.value c.from.result small c.from.ensures)
