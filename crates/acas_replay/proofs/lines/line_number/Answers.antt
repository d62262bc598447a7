use Rattle.std.proofs.Common.{◌≡◌, ◌<◌, ◌^◌, length, arith, length-append, unsigned_abs, ap, rules, w64, ℤ, to_z, of_z}
use Rattle.std.specs.Fmt.{signed_decimal}
use Rattle.std.proofs.lemmas.Int.{ints, to_z-of_z}
use mir.Val.{SFits}
use mir.Syntax.{w128}
use Rattle.acas_outside.proofs.Lengths.{length_signed_decimal_le}
use Rattle.acas_replay.proofs.lines.line_number.Goals as goal

pub number-requires : goal.number-requires
number-requires c =
    let v : SFits w64 c.args.value = c.ranges.value in
    let is : c.from.result ≡ c.args.value = simp to_z-of_z at c.from.ensures in
    let r : SFits w128 c.args.value = search rules in
    let small : unsigned_abs c.args.value < 2 ^ 128 = omega (arith, ints) in
    rw is (rw (to_z-of_z w128 c.args.value r) (omega (arith, length_signed_decimal_le c.args.value small)))

pub returns-clause-room : goal.returns-clause-room
returns-clause-room c =
    let v : SFits w64 c.args.value = c.ranges.value in
    let is : c.from.result ≡ c.args.value = simp to_z-of_z at c.from.ensures in
    let r : SFits w128 c.args.value = search rules in
    let small : unsigned_abs c.args.value < 2 ^ 128 = omega (arith, ints) in
    let text : to_z w128 (of_z w128 c.from.result) ≡ c.args.value = rw is (to_z-of_z w128 c.args.value r) in
    omega (arith, ap length c.number.ensures, length-append c.args.line.now (signed_decimal (to_z w128 (of_z w128 c.from.result))), ap (λ (z : ℤ). length (signed_decimal z)) text, length_signed_decimal_le c.args.value small)
