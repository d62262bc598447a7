use Rattle.std.proofs.Common.{arith, rules}
use Rattle.std.proofs.lemmas.Grind.{common_steps}
use Rattle.acas_means.specs.declared.layer.Side.TheVariants.{Upper, Lower}
use Rattle.acas_step_narrow.specs.Raised.{raised_at}
use Rattle.acas_step_narrow.proofs.CornerSums.{altitude_chain}
use Rattle.acas_step_narrow.proofs.wide_sums.with_altitude.Goals as goal

pub returns-clause-upper : goal.returns-clause-upper
returns-clause-upper c =
    altitude_chain c.args.cell.now c.args.row c.args.place c.args.weight (raised_at c.args.by Upper c.args.below.now)
    c.product.result c.product-2.result c.product-3.result c.product-4.result
    c.args.sums.upper c.with_pair-one.result.upper c.with_pair-two.result.upper c.with_pair-three.result.upper c.with_pair.result.upper
    c.product.ensures.value c.product-2.ensures.value c.product-3.ensures.value c.product-4.ensures.value
    c.with_pair-one.ensures.upper c.with_pair-two.ensures.upper c.with_pair-three.ensures.upper c.with_pair.ensures.upper

pub returns-clause-lower : goal.returns-clause-lower
returns-clause-lower c =
    altitude_chain c.args.cell.now c.args.row c.args.place c.args.weight (raised_at c.args.by Lower c.args.below.now)
    c.product.result c.product-2.result c.product-3.result c.product-4.result
    c.args.sums.lower c.with_pair-one.result.lower c.with_pair-two.result.lower c.with_pair-three.result.lower c.with_pair.result.lower
    c.product.ensures.value c.product-2.ensures.value c.product-3.ensures.value c.product-4.ensures.value
    c.with_pair-one.ensures.lower c.with_pair-two.ensures.lower c.with_pair-three.ensures.lower c.with_pair.ensures.lower

pub returns-clause-lower_room : goal.returns-clause-lower_room
returns-clause-lower_room c = grind (arith, common_steps)

pub returns-clause-upper_room : goal.returns-clause-upper_room
returns-clause-upper_room c = search rules

pub with_pair-three-requires : goal.with_pair-three-requires
with_pair-three-requires c = grind (arith, common_steps)

pub with_pair-requires : goal.with_pair-requires
with_pair-requires c = grind (arith, common_steps)
