use Rattle.std.proofs.Common.{arith}
use Rattle.std.proofs.lemmas.Grind.{common_steps}
use Rattle.acas_frac.proofs.frac.Frac.over_one_denominator.Goals as goal

pub times-requires : goal.times-requires
times-requires c = grind (arith, common_steps)

pub times-requires-2 : goal.times-requires-2
times-requires-2 c = grind (arith, common_steps)

pub times-requires-3 : goal.times-requires-3
times-requires-3 c = grind (arith, common_steps)

pub returns : goal.returns
returns c = grind (arith, common_steps)
