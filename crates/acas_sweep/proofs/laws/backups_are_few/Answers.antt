use Rattle.acas_sweep.proofs.Counts.{few_backups}
use Rattle.acas_sweep.proofs.laws.backups_are_few.Goals as goal

pub returns : goal.returns
returns c = few_backups
