use Rattle.std.proofs.Common.{arith}
use Rattle.std.proofs.lemmas.Grind.{common_steps}
use Rattle.acas_region.proofs.least.least.Goals as goal

pub returns-then-chase : goal.returns-then-chase
returns-then-chase c = grind (arith, common_steps)

pub returns-else-chase : goal.returns-else-chase
returns-else-chase c = grind (arith, common_steps)
