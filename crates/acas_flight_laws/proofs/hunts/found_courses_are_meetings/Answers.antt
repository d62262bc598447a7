use Rattle.acas_hunt_lemmas.proofs.Founds.{found_meets}
use Rattle.acas_flight_laws.proofs.hunts.found_courses_are_meetings.Goals as goal

pub returns : goal.returns
returns c = λ half h w c hold rest turn thick is timed can f by. found_meets h is w timed half thick can c hold rest turn f by
