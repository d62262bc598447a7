use Rattle.acas_replay.proofs.Audits.{course_audited}
use Rattle.acas_replay.proofs.laws.issued_advices_are_audited.Goals as goal

pub returns : goal.returns
returns c = course_audited
