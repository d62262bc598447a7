use Rattle.std.proofs.Common.{◌≤◌, ◌^◌, unsigned_abs, arith, length-append, rules}
use Rattle.acas_report_lines.proofs.Lengths.{length_wide}
use Rattle.acas_report_lines.proofs.witness_fields.line_altitude.Goals as goal

pub number-requires : goal.number-requires
number-requires c =
    let small : unsigned_abs c.from.result ≤ 2 ^ 63 = search rules in
    grind (arith, length-append, c.requires, c.push.ensures, length_wide c.from.result small)

pub returns-clause-room : goal.returns-clause-room
returns-clause-room c =
    let small : unsigned_abs c.from.result ≤ 2 ^ 63 = search rules in
    grind (arith, length-append, c.push.ensures, c.number.ensures, length_wide c.from.result small)
