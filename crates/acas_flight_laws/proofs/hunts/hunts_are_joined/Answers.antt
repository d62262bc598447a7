use Rattle.acas_hunt_lemmas.proofs.Joins.{joined, time-start, own-end}
use Rattle.acas_flight_laws.proofs.hunts.hunts_are_joined.Goals as goal

pub returns : goal.returns
returns c = record { first = time-start; next = joined; last = λ h last is l. own-end h is last l }
