use Rattle.acas_bounds.proofs.First.{first_fault-is}
use Rattle.acas_bounds.proofs.laws.faults_are_first.Goals as goal

pub returns : goal.returns
returns c = first_fault-is
