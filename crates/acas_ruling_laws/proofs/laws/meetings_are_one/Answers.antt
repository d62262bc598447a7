use Rattle.acas_ruling_laws.proofs.MeetingOnes.{verdict-one}
use Rattle.acas_ruling_laws.proofs.MeetingSomes.{verdict-some}
use Rattle.acas_ruling_laws.proofs.laws.meetings_are_one.Goals as goal

pub returns-clause-some : goal.returns-clause-some
returns-clause-some c = verdict-some

pub returns-clause-one : goal.returns-clause-one
returns-clause-one c = λ m may b v u is of some i j. verdict-one m may b is of some v u i j
