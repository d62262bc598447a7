use Rattle.std.proofs.Common.{arith}
use Rattle.std.proofs.lemmas.Grind.{common_steps}
use Rattle.acas_frac.proofs.frac.Frac.mul_small.Goals as goal

pub times-num-requires : goal.times-num-requires
times-num-requires c = grind (arith, common_steps)
