use Rattle.std.proofs.Common.{arith}
use Rattle.std.proofs.lemmas.Grind.{common_steps}
use Rattle.acas_step_stencils.proofs.stencils.Stencils.make.Goals as goal

pub returns : goal.returns
returns c = grind (arith, common_steps)

pub even_gap-even-requires : goal.even_gap-even-requires
even_gap-even-requires c = grind (arith, common_steps)

pub new-requires : goal.new-requires
new-requires c = grind (arith, common_steps)
