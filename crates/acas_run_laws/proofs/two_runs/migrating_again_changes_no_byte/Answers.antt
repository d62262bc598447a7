use Rattle.acas_run_laws.proofs.TwoRuns.{compiled-again, migrated-again}
use Rattle.acas_run_laws.proofs.two_runs.migrating_again_changes_no_byte.Goals as goal

pub returns : goal.returns
returns c = record { compiled = compiled-again; migrated = migrated-again }
