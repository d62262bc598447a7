use Rattle.acas_hunt_lemmas.proofs.Founds.{finds, flown_by}
use Rattle.acas_flight_laws.proofs.hunts.hunts_find_a_course.Goals as goal

pub returns : goal.returns
returns c = record { found = finds; flown = flown_by }
