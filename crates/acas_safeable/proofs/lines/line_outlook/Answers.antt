use Rattle.std.proofs.Common.{arith}
use Rattle.std.proofs.lemmas.Grind.{common_steps}
use Rattle.acas_safeable.proofs.lines.line_outlook.Goals as goal

pub returns-in-Safeable : goal.returns-in-Safeable
returns-in-Safeable c = grind (arith, common_steps)

pub returns-in-Unshown : goal.returns-in-Unshown
returns-in-Unshown c = grind (arith, common_steps)
