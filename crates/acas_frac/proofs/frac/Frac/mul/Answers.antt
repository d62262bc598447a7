use Rattle.std.proofs.Common.{arith}
use Rattle.std.proofs.lemmas.Grind.{common_steps}
use Rattle.acas_frac.proofs.frac.Frac.mul.Goals as goal

pub times-den-requires : goal.times-den-requires
times-den-requires c = grind (arith, common_steps)

pub lowest-requires-clause-some : goal.lowest-requires-clause-some
lowest-requires-clause-some c = grind (arith, common_steps)
