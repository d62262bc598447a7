use Rattle.acas_run_laws.proofs.TwoRuns.{accepted-audited}
use Rattle.acas_run_laws.proofs.two_runs.accepted_tables_are_audited.Goals as goal

pub returns : goal.returns
returns c = accepted-audited
