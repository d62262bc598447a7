use Rattle.std.proofs.Common.{pos, ◌*ℤ◌, w64, ap, ◌∙◌, arith, rules}
use Rattle.std.proofs.lemmas.Int.{ints, to_z-of_z}
use Rattle.acas_process.specs.Values.{millionths}
use Rattle.acas_bounds.specs.Means.{answer_of}
use Rattle.acas_bounds.specs.Sound.{values_fault}
use Rattle.acas_bounds.proofs.check.check_ending.Goals as goal
use mir.Syntax.{w128}
use mir.Val.{SFits}

pub returns : goal.returns
returns c =
    let fits : SFits w64 c.terminal.result = omega (arith, ints, c.terminal.ensures.limits) in
    let widened = simp to_z-of_z at c.from-cost.ensures in
    let wide : SFits w128 c.from-cost.result = search rules in
    let product : SFits w128 (pos 1000000 *ℤ c.from-cost.result) = omega (arith, ints, c.terminal.ensures.limits, widened) in
    (simp to_z-of_z at c.check_values.ensures)
    ∙ ap (λ z. answer_of (values_fault c.args.pair.upper (millionths z) c.args.pair.lower (millionths z))) (widened ∙ c.terminal.ensures.value)
