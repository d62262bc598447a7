use Rattle.acas_rulings.proofs.meeting_laws.verdicts_exclude_each_other.Goals as goal

pub returns : goal.returns
returns c = λ m may b meeting certified reported. certified reported.endangered
