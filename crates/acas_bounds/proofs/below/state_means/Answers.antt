use Rattle.std.proofs.Common.{arith}
use Rattle.std.proofs.lemmas.Grind.{common_steps}
use Rattle.acas_bounds.proofs.below.state_means.Goals as goal

pub returns-clause-upper : goal.returns-clause-upper
returns-clause-upper c = grind (arith, common_steps)

pub returns-clause-lower : goal.returns-clause-lower
returns-clause-lower c = grind (arith, common_steps)
