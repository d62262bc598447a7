use Rattle.acas_run_laws.proofs.TwoRuns.{stored-accepted}
use Rattle.acas_run_laws.proofs.two_runs.stored_tables_are_accepted.Goals as goal

pub returns : goal.returns
returns c = stored-accepted
