use Rattle.std.proofs.Common.{arith}
use Rattle.std.proofs.lemmas.Grind.{common_steps}
use Rattle.acas_step.proofs.second.vertex_point.Goals as goal

pub returns-clause-on_axes : goal.returns-clause-on_axes
returns-clause-on_axes c = grind (arith, common_steps)
