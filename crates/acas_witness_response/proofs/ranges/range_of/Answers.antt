use Rattle.std.proofs.Common.{◌≡◌, ◌+◌, ◌*◌, ◌≤◌, pos, to_z, arith, mul-le-mul}
use Rattle.std.specs.Int.{w64}
use Rattle.acas_units.specs.declared.limits.TheConstants.{WINDOW_SECONDS}
use Rattle.acas_areas.specs.declared.fineness.TheConstants.{TIME_PARTS}
use Rattle.std.proofs.lemmas.Int.{ints}
use Rattle.std.proofs.lemmas.Grind.{common_steps}
use Rattle.acas_witness_response.proofs.ranges.range_of.Goals as goal

pub ratio-requires-clause-num : goal.ratio-requires-clause-num
ratio-requires-clause-num c =
    let m : c.min.result ≤ WINDOW_SECONDS * TIME_PARTS = omega (arith, c.requires.time) in
    let a = mul-le-mul c.requires.radius c.requires.den in
    let b = mul-le-mul c.requires.speed m in
    let e : to_z w64 (c.args.radius * c.args.den + c.args.speed * c.min.result) ≡ pos (c.args.radius * c.args.den + c.args.speed * c.min.result) = omega (arith, ints, a, b) in
    rw e (omega (arith, a, b))

pub overflow_add-radius : goal.overflow_add-radius
overflow_add-radius c = grind (arith, common_steps)

pub returns : goal.returns
returns c = grind (arith, common_steps)
