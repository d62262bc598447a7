use Rattle.acas_run_laws.proofs.Causes.{rose-greater}
use Rattle.acas_run_laws.proofs.faults.risen_counts_are_greater.Goals as goal

pub returns : goal.returns
returns c = rose-greater
