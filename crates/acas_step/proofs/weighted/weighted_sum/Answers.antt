use Rattle.std.proofs.Common.{◌≡◌, ◌+◌, ◌+ℤ◌, pos, to_z, of_z, get_or, w64, arith, rules}
use Rattle.std.proofs.lemmas.Int.{ints, to_z-of_z}
use Rattle.std.proofs.lemmas.Grind.{common_steps}
use Rattle.acas_means.specs.Layer.{value_at}
use Rattle.acas_step.proofs.SumSteps.{sum_step}
use Rattle.acas_step.proofs.weighted.weighted_sum.Goals as goal
use mir.Syntax.{w128}
use mir.Val.{SFits}

pub overflow_add-sum : goal.overflow_add-sum
overflow_add-sum c =
    let light = c.requires.weights c.loop-corner.corner-index (record { vertex = 0; weight = pos 0 }) c.loop-corner-test.true in
    let w : SFits w128 (get_or c.args.corners.now c.loop-corner.corner-index (record { vertex = 0; weight = pos 0 })).weight = omega (arith, ints, light.some, light.light) in
    let t : SFits w128 c.weighted-sum.result = search rules in
    let so = c.loop-corner.invariant in
    let f : SFits w128 (to_z w128 c.loop-corner.sum-bits +ℤ c.weighted-sum.result) =
    omega (arith, ints, simp to_z-of_z at c.weighted-sum.ensures.high, simp to_z-of_z at c.weighted-sum.ensures.low, light.some, light.light, so.high, so.low, so.light) in
    simp to_z-of_z f

pub loop-corner-preserved : goal.loop-corner-preserved
loop-corner-preserved c =
    let light = c.requires.weights c.loop-corner.corner-index (record { vertex = 0; weight = pos 0 }) c.loop-corner-test.true in
    let w : SFits w128 (get_or c.args.corners.now c.loop-corner.corner-index (record { vertex = 0; weight = pos 0 })).weight = omega (arith, ints, light.some, light.light) in
    let v : SFits w64 c.value_of-value.result = search rules in
    let t : SFits w128 c.weighted-sum.result = search rules in
    let f : SFits w128 (to_z w128 c.loop-corner.sum-bits +ℤ c.weighted-sum.result) = simp to_z-of_z at (overflow_add-sum c) in
    let next : to_z w128 (of_z w128 (to_z w128 c.loop-corner.sum-bits +ℤ to_z w128 (of_z w128 c.weighted-sum.result))) ≡ to_z w128 c.loop-corner.sum-bits +ℤ c.weighted-sum.result = simp to_z-of_z in
    sum_step c.args.corners.now c.loop-corner.corner-index (record { vertex = 0; weight = pos 0 }) (λ n. value_at c.args.side c.args.below.now (c.args.first + n))
    (to_z w128 c.loop-corner.sum-bits) c.value_of-value.result c.weighted-sum.result _ c.loop-corner-test.true c.loop-corner.invariant light c.value_of-value.ensures
    (simp to_z-of_z at c.weighted-sum.ensures.value) (simp to_z-of_z at c.weighted-sum.ensures.high) (simp to_z-of_z at c.weighted-sum.ensures.low) next

pub weighted-sum-requires : goal.weighted-sum-requires
weighted-sum-requires c = search rules

pub returns : goal.returns
returns c = grind (arith, common_steps)
