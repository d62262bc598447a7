use Rattle.std.proofs.Common.{◌≡◌, ◌<◌, ◌^◌, length, arith, length-append, ap, rules, w64, ℤ, pos, to_z, of_z}
use Rattle.std.specs.Fmt.{signed_decimal}
use Rattle.std.proofs.lemmas.Int.{to_z-of_z}
use mir.Val.{Fits, SFits}
use mir.Syntax.{w128}
use Rattle.acas_command.proofs.Digits.{length-decimal}
use Rattle.acas_command.proofs.line_fields.put_count.Goals as goal

pub number-requires : goal.number-requires
number-requires c =
    let v : Fits w64 c.args.value = c.ranges.value in
    let small : c.args.value < 2 ^ 64 = omega arith in
    let r : SFits w128 (pos c.args.value) = search rules in
    rw c.from.ensures (rw (to_z-of_z w128 (pos c.args.value) r) (omega (arith, length-decimal c.args.value small)))

pub returns-clause-room : goal.returns-clause-room
returns-clause-room c =
    let v : Fits w64 c.args.value = c.ranges.value in
    let small : c.args.value < 2 ^ 64 = omega arith in
    let r : SFits w128 (pos c.args.value) = search rules in
    let text : to_z w128 (of_z w128 c.from.result) ≡ pos c.args.value = rw c.from.ensures (to_z-of_z w128 (pos c.args.value) r) in
    omega (arith, ap length c.number.ensures, length-append c.args.line.now (signed_decimal (to_z w128 (of_z w128 c.from.result))), ap (λ (z : ℤ). length (signed_decimal z)) text, length-decimal c.args.value small)
