use Rattle.std.proofs.Common.{arith}
use Rattle.std.proofs.lemmas.Grind.{common_steps}
use Rattle.acas_plain.proofs.means.means_at.Goals as goal

pub loop-advisory-preserved : goal.loop-advisory-preserved
loop-advisory-preserved c = grind (arith, common_steps)
