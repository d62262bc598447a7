use Rattle.std.proofs.Common.{arith}
use Rattle.std.proofs.lemmas.Grind.{common_steps}
use Rattle.acas_witness_response.proofs.ranges.nearest.Goals as goal

pub ratio-requires : goal.ratio-requires
ratio-requires c = grind (arith, common_steps)

pub returns : goal.returns
returns c = grind (arith, common_steps)
