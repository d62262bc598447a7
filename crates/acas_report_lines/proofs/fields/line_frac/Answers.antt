use Rattle.std.proofs.Common.{arith, length-append}
use Rattle.acas_report_lines.proofs.Lengths.{length_num, length_den}
use Rattle.acas_report_lines.proofs.fields.line_frac.Goals as goal

pub number-requires : goal.number-requires
number-requires c = omega (arith, c.requires, length_num c.args.value.now c.num.result c.num.ensures.bounds c.num.ensures.value)

pub push-requires : goal.push-requires
push-requires c =
    grind (arith, length-append, c.requires, c.number.ensures, length_num c.args.value.now c.num.result c.num.ensures.bounds c.num.ensures.value)

pub number-requires-then-den-ne1 : goal.number-requires-then-den-ne1
number-requires-then-den-ne1 c =
    grind (
      arith,
      length-append,
      c.requires,
      c.number.ensures,
      c.push.ensures,
      length_num c.args.value.now c.num.result c.num.ensures.bounds c.num.ensures.value,
      length_den c.args.value.now c.den-then-den-ne1.result c.den-then-den-ne1.ensures.bounds c.den-then-den-ne1.ensures.value,
    )

pub returns-then-den-ne1-clause-room : goal.returns-then-den-ne1-clause-room
returns-then-den-ne1-clause-room c =
    grind (
      arith,
      length-append,
      c.number.ensures,
      c.push.ensures,
      c.number-then-den-ne1.ensures,
      length_num c.args.value.now c.num.result c.num.ensures.bounds c.num.ensures.value,
      length_den c.args.value.now c.den-then-den-ne1.result c.den-then-den-ne1.ensures.bounds c.den-then-den-ne1.ensures.value,
    )

pub returns-else-den-ne1-clause-room : goal.returns-else-den-ne1-clause-room
returns-else-den-ne1-clause-room c =
    grind (arith, length-append, c.number.ensures, length_num c.args.value.now c.num.result c.num.ensures.bounds c.num.ensures.value)
