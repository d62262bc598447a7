use Rattle.acas_pass_lemmas.proofs.Joins.{joined, own-end, time-start}
use Rattle.acas_flight_laws.proofs.passes.passes_are_joined.Goals as goal

pub returns-clause-first : goal.returns-clause-first
returns-clause-first c = time-start

pub returns-clause-next : goal.returns-clause-next
returns-clause-next c = joined

pub returns-clause-last : goal.returns-clause-last
returns-clause-last c = λ s last is l. own-end s is last l
