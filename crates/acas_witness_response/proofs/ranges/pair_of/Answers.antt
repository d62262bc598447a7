use Rattle.std.proofs.Common.{◌≡◌, pos, to_z, arith}
use Rattle.std.specs.Int.{w64}
use Rattle.std.proofs.lemmas.Int.{ints}
use Rattle.acas_witness_response.proofs.CellRanges.{whole_some}
use Rattle.acas_witness_response.proofs.BoxRanges.{pair_at_least, pair_at_greater, some_time}
use Rattle.acas_witness_response.proofs.ranges.pair_of.Goals as goal

pub speed_of-requires-clause-some : goal.speed_of-requires-clause-some
speed_of-requires-clause-some c =
    let n = c.time_parts-num.ensures in
    some_time c.args.radius c.args.near c.args.far c.args.slow c.args.fast c.time_parts-num.result.0 c.time_parts-num.result.1 c.args.time.now.den c.args.time.now.num n.num n.den n.some c.requires.ranges c.requires.speeds c.requires.during
    (rw c.saturating_sub-first.ensures at c.if-first-den.false)

pub returns-then-first-den-clause-rule : goal.returns-then-first-den-clause-rule
returns-then-first-den-clause-rule c =
    let n = c.time_parts-num.ensures in
    let s : to_z w64 c.args.slow ≡ pos c.args.slow = omega (arith, ints, c.requires.speeds, c.requires.fast) in
    (pair_at_least c.args.time.now c.nearest.result c.whole.result c.args.radius c.args.near c.args.far c.args.slow c.args.fast c.time_parts-num.result.0 c.time_parts-num.result.1 n.num n.den n.some c.requires.ranges c.requires.speeds c.requires.during
    c.nearest.ensures.some (whole_some (pos c.args.slow) c.whole.result (rw s at c.whole.ensures)) (rw c.saturating_sub-first.ensures at c.if-first-den.true) c.nearest.ensures.value (rw s at c.whole.ensures)).0

pub returns-then-first-den-clause-contact : goal.returns-then-first-den-clause-contact
returns-then-first-den-clause-contact c =
    let n = c.time_parts-num.ensures in
    let s : to_z w64 c.args.slow ≡ pos c.args.slow = omega (arith, ints, c.requires.speeds, c.requires.fast) in
    (pair_at_least c.args.time.now c.nearest.result c.whole.result c.args.radius c.args.near c.args.far c.args.slow c.args.fast c.time_parts-num.result.0 c.time_parts-num.result.1 n.num n.den n.some c.requires.ranges c.requires.speeds c.requires.during
    c.nearest.ensures.some (whole_some (pos c.args.slow) c.whole.result (rw s at c.whole.ensures)) (rw c.saturating_sub-first.ensures at c.if-first-den.true) c.nearest.ensures.value (rw s at c.whole.ensures)).1

pub returns-else-first-den-clause-rule : goal.returns-else-first-den-clause-rule
returns-else-first-den-clause-rule c =
    let n = c.time_parts-num.ensures in
    let s : to_z w64 c.args.near ≡ pos c.args.near = omega (arith, ints, c.requires.ranges, c.requires.far) in
    (pair_at_greater c.args.time.now c.whole-else-first-den.result c.speed_of.result c.args.radius c.args.near c.args.far c.args.slow c.args.fast c.time_parts-num.result.0 c.time_parts-num.result.1 n.num n.den n.some c.requires.ranges c.requires.speeds c.requires.during
    (whole_some (pos c.args.near) c.whole-else-first-den.result (rw s at c.whole-else-first-den.ensures)) c.speed_of.ensures.some (rw c.saturating_sub-first.ensures at c.if-first-den.false) (rw s at c.whole-else-first-den.ensures) (rw c.saturating_sub-first.ensures at c.speed_of.ensures.value)).0

pub returns-else-first-den-clause-contact : goal.returns-else-first-den-clause-contact
returns-else-first-den-clause-contact c =
    let n = c.time_parts-num.ensures in
    let s : to_z w64 c.args.near ≡ pos c.args.near = omega (arith, ints, c.requires.ranges, c.requires.far) in
    (pair_at_greater c.args.time.now c.whole-else-first-den.result c.speed_of.result c.args.radius c.args.near c.args.far c.args.slow c.args.fast c.time_parts-num.result.0 c.time_parts-num.result.1 n.num n.den n.some c.requires.ranges c.requires.speeds c.requires.during
    (whole_some (pos c.args.near) c.whole-else-first-den.result (rw s at c.whole-else-first-den.ensures)) c.speed_of.ensures.some (rw c.saturating_sub-first.ensures at c.if-first-den.false) (rw s at c.whole-else-first-den.ensures) (rw c.saturating_sub-first.ensures at c.speed_of.ensures.value)).1
