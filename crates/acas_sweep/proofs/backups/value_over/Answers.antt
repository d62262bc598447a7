use Rattle.std.proofs.Common.{arith}
use Rattle.std.proofs.lemmas.Grind.{common_steps}
use Rattle.acas_sweep.proofs.backups.value_over.Goals as goal

pub returns-clause-backup : goal.returns-clause-backup
returns-clause-backup g c = grind (arith, common_steps)
