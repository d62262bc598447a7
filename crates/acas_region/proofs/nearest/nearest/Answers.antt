use Rattle.std.proofs.Common.{arith}
use Rattle.std.proofs.lemmas.Grind.{common_steps}
use Rattle.acas_region.proofs.nearest.nearest.Goals as goal

pub returns-then-chase : goal.returns-then-chase
returns-then-chase c = grind (arith, common_steps)

pub returns-then-chase-2 : goal.returns-then-chase-2
returns-then-chase-2 c = grind (arith, common_steps)

pub returns-else-chase-2 : goal.returns-else-chase-2
returns-else-chase-2 c = grind (arith, common_steps)
