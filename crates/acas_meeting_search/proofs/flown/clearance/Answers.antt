use Rattle.std.proofs.Common.{◌≡◌, ◌∙◌, ap₂, ◌-ℤ◌, ◌*ℤ◌, to_z, of_z, arith, rules}
use Rattle.std.specs.Int.{w64, w128}
use Rattle.std.proofs.lemmas.Grind.{common_steps}
use Rattle.std.proofs.lemmas.Int.{ints}
use Rattle.acas_meeting_search.proofs.flown.clearance.Goals as goal

pub overflow_sub-value : goal.overflow_sub-value
overflow_sub-value c = search rules

pub ticks_over-requires-2-clause-ticks : goal.ticks_over-requires-2-clause-ticks
ticks_over-requires-2-clause-ticks c = grind (arith, common_steps)

pub returns-clause-value : goal.returns-clause-value
returns-clause-value c =
    let apart = c.difference_parts-apart in
    let fits : to_z w128 (of_z w128 (to_z w128 (of_z w128 c.difference_parts-apart.result.0) -ℤ to_z w128 (of_z w128 c.ticks_over.result))) ≡ c.difference_parts-apart.result.0 -ℤ c.ticks_over.result = omega (arith, ints, apart.ensures.size, c.ticks_over.ensures.size) in
    let ticks : to_z w64 (of_z w64 c.args.outcome.now.flown.plan.altitude) ≡ c.args.outcome.now.flown.plan.altitude = omega (arith, ints, c.args.outcome.now.low) in
    let den : to_z w128 (of_z w128 c.difference_parts-apart.result.1) ≡ c.difference_parts-apart.result.1 = omega (arith, ints, apart.ensures.den_size) in
    fits ∙ ap₂ ◌-ℤ◌ apart.ensures.num (c.ticks_over.ensures.value ∙ ap₂ ◌*ℤ◌ ticks (den ∙ apart.ensures.den))

pub returns-clause-size : goal.returns-clause-size
returns-clause-size c = search rules

pub returns-clause-band : goal.returns-clause-band
returns-clause-band c = grind (arith, common_steps)
