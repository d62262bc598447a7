use Rattle.std.proofs.Common.{arith}
use Rattle.std.proofs.lemmas.Grind.{common_steps}
use Rattle.acas_intruder.proofs.report.write_meetings.Goals as goal

pub returns-in_err-counts : goal.returns-in_err-counts
returns-in_err-counts g c = grind (arith, common_steps)

pub returns : goal.returns
returns g c = grind (arith, common_steps)
