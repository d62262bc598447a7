use Rattle.std.proofs.Common.{arith}
use Rattle.std.proofs.lemmas.Grind.{common_steps}
use Rattle.acas_sweep.proofs.two.best_of_two.Goals as goal

pub returns : goal.returns
returns c = grind (arith, common_steps)
