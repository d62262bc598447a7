use Rattle.std.proofs.Common.{◌∙◌, sym, arith, mul-pos}
use Rattle.std.proofs.lemmas.Int.{ints}
use Rattle.acas_witness_plans.proofs.Portions.{up_over, down_over}
use Rattle.acas_witness_response.proofs.Assembly.{opposite_from}
use Rattle.acas_witness_response.proofs.response.toward.Goals as goal

pub returns-then-is_at_most : goal.returns-then-is_at_most
returns-then-is_at_most c = λ q v k b p ov ok op.
    up_over q v k b c.args.rate.now c.args.aim.now c.args.pull.now (mul-pos p p) c.requires.rate.some c.requires.aim.some ov ok op (sym c.is_at_most.ensures ∙ c.if-is_at_most.true)

pub returns-else-is_at_most : goal.returns-else-is_at_most
returns-else-is_at_most c = λ q v k b p ov ok op.
    down_over q v k b c.args.rate.now c.args.aim.now c.args.pull.now c.ratio.result (mul-pos p p) c.requires.rate.some c.requires.aim.some c.requires.pull.some ov ok op (sym c.is_at_most.ensures ∙ c.if-is_at_most.false)
    (opposite_from c.ratio.result c.args.pull.now _ _ c.ratio.ensures.value (sym c.pull_parts-num.ensures.parts.den) (omega (arith, ints, c.pull_parts-num.ensures.parts.num, c.pull_parts-num.ensures.parts.num_size)))
