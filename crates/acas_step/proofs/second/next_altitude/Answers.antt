use Rattle.std.proofs.Common.{◌+ℤ◌, ◌-ℤ◌, w64, arith}
use Rattle.std.proofs.lemmas.Int.{ints, to_z-of_z}
use Rattle.acas_step.proofs.second.next_altitude.Goals as goal
use mir.Val.{SFits}

pub returns : goal.returns
returns c =
    let h : SFits w64 c.args.h = c.ranges.h in
    let k : SFits w64 c.args.climb = c.ranges.climb in
    let i : SFits w64 c.args.intruder = c.ranges.intruder in
    let o : SFits w64 c.args.own = c.ranges.own in
    let f : SFits w64 (c.args.h +ℤ c.args.climb) = omega (arith, ints) in
    let g : SFits w64 (c.args.h +ℤ c.args.climb +ℤ c.args.intruder) = omega (arith, ints) in
    let e : SFits w64 (c.args.h +ℤ c.args.climb +ℤ c.args.intruder -ℤ c.args.own) = omega (arith, ints) in
    simp to_z-of_z
