use Rattle.std.proofs.Common.{arith}
use Rattle.std.proofs.lemmas.Grind.{common_steps}
use Rattle.acas_replay.proofs.parabola.Parabola.is_least_above.Goals as goal

pub returns : goal.returns
returns c = grind (arith, common_steps)
