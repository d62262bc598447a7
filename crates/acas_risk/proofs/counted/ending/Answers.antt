use Rattle.std.proofs.Common.{arith}
use Rattle.std.proofs.lemmas.Grind.{common_steps}
use Rattle.acas_risk.proofs.counted.ending.Goals as goal

pub abs-requires : goal.abs-requires
abs-requires c = grind (arith, common_steps)
