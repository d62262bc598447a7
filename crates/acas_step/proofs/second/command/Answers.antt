use Rattle.std.proofs.Common.{◌≤◌, pos, ◌-ℤ◌, unsigned_abs, w64, arith, rules}
use Rattle.std.proofs.lemmas.Int.{ints, to_z-of_z}
use Rattle.acas_step.proofs.Commands.{SFits-small, command_above, int_min-small}
use Rattle.acas_step.proofs.second.command.Goals as goal
use mir.Val.{SFits}

pub returns-then-hi-v : goal.returns-then-hi-v
returns-then-hi-v c =
    let p : SFits w64 c.args.pull = c.ranges.pull in
    let h : SFits w64 c.args.hi = c.ranges.hi in
    let v : SFits w64 c.args.v = c.ranges.v in
    let d : SFits w64 (c.args.v -ℤ c.args.hi) = omega (arith, ints) in
    let fall = simp to_z-of_z at c.min-fall.ensures.value in
    let small : unsigned_abs c.min-fall.result ≤ 20_000 = int_min-small c.args.pull (c.args.v -ℤ c.args.hi) c.min-fall.result 20_000 fall (omega (arith, c.requires.pull)) (omega (arith, ints, c.requires.rate, c.requires.hi)) in
    let f : SFits w64 c.min-fall.result = (SFits-small c.min-fall.result small).0 in
    let n : SFits w64 (pos 0 -ℤ c.min-fall.result) = (SFits-small c.min-fall.result small).1 in
    record { value = command_above c.args.lo c.args.hi c.args.pull c.args.v c.min-fall.result _ (omega (arith, ints)) (omega (arith, ints)) fall (simp to_z-of_z); small = search rules }

pub overflow_sub-lo : goal.overflow_sub-lo
overflow_sub-lo c = search rules

pub overflow_sub-v : goal.overflow_sub-v
overflow_sub-v c = search rules

pub returns-then-v-lo : goal.returns-then-v-lo
returns-then-v-lo c = search rules

pub returns : goal.returns
returns c = search rules

pub overflow_sub-result : goal.overflow_sub-result
overflow_sub-result c = search rules
