use Rattle.std.proofs.Common.{arith}
use Rattle.std.proofs.lemmas.Grind.{common_steps}
use Rattle.acas_step_stencils.proofs.heights.heights_of.Goals as goal

pub fill_heights-requires-clause-first : goal.fill_heights-requires-clause-first
fill_heights-requires-clause-first c = grind (arith, common_steps)

pub returns : goal.returns
returns c = grind (arith, common_steps)
