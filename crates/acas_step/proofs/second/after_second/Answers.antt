use Rattle.std.proofs.Common.{◌+ℤ◌, ◌-ℤ◌, ap, ◌∙◌, w64, arith, rules}
use Rattle.std.proofs.lemmas.Int.{ints, to_z-of_z}
use Rattle.acas_step.proofs.Commands.{point-same}
use Rattle.acas_step.proofs.second.after_second.Goals as goal
use mir.Val.{SFits}

pub returns : goal.returns
returns c =
    let h : SFits w64 c.args.from.h = search rules in
    let v : SFits w64 c.args.from.v0 = search rules in
    let w : SFits w64 c.args.from.v1 = search rules in
    let o : SFits w64 c.args.own = c.ranges.own in
    let i : SFits w64 c.args.intruder = c.ranges.intruder in
    let k : SFits w64 c.climb.result = search rules in
    let climbs = simp to_z-of_z at c.climb.ensures.value in
    let next = simp to_z-of_z at c.next_altitude-h.ensures in
    point-same (to_z-of_z w64 c.next_altitude-h.result (search rules) ∙ (next ∙ ap (λ z. c.args.from.h +ℤ z +ℤ c.args.intruder -ℤ c.args.own) climbs)) (omega (arith, ints)) (omega (arith, ints))
