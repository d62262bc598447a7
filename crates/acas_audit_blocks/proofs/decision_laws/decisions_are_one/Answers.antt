use Rattle.acas_audit_blocks.proofs.Counted.{one_whole}
use Rattle.acas_audit_blocks.proofs.decision_laws.decisions_are_one.Goals as goal

pub returns : goal.returns
returns c = one_whole
