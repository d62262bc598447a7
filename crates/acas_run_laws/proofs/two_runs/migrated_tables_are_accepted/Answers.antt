use Rattle.acas_run_laws.proofs.TwoRuns.{migrated-accepted}
use Rattle.acas_run_laws.proofs.two_runs.migrated_tables_are_accepted.Goals as goal

pub returns : goal.returns
returns c = migrated-accepted
