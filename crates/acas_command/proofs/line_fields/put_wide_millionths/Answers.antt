use Rattle.std.proofs.Common.{◌≡◌, ◌≤◌, ◌^◌, length, arith, length-append, unsigned_abs, ap, ℤ, to_z, of_z}
use Rattle.std.proofs.lemmas.Int.{ints, to_z-of_z}
use mir.Val.{SFits}
use mir.Syntax.{w128}
use Rattle.acas_outside.specs.Printed.{millionths_text}
use Rattle.acas_command.proofs.Digits.{length-wide_millionths}
use Rattle.acas_command.proofs.line_fields.put_wide_millionths.Goals as goal

pub millionths-requires : goal.millionths-requires
millionths-requires c =
    let r : SFits w128 c.args.value = c.ranges.value in
    let small : unsigned_abs c.args.value ≤ 2 ^ 127 = omega (arith, ints) in
    rw (to_z-of_z w128 c.args.value r) (omega (arith, length-wide_millionths c.args.value small))

pub returns-clause-room : goal.returns-clause-room
returns-clause-room c =
    let r : SFits w128 c.args.value = c.ranges.value in
    let small : unsigned_abs c.args.value ≤ 2 ^ 127 = omega (arith, ints) in
    let text : to_z w128 (of_z w128 c.args.value) ≡ c.args.value = to_z-of_z w128 c.args.value r in
    omega (arith, ap length c.millionths.ensures, length-append c.args.line.now (millionths_text (to_z w128 (of_z w128 c.args.value))), ap (λ (z : ℤ). length (millionths_text z)) text, length-wide_millionths c.args.value small)
