use Rattle.acas_areas.specs.Search.{unit}
use Rattle.acas_rulings.specs.Hunt.{value, accel, low_course, high_course, passes}
use Rattle.acas_pass_lemmas.proofs.Ends.{found-one}
use Rattle.acas_flight_laws.proofs.hunts.found_courses_are_one.Goals as goal

pub returns : goal.returns
returns c = λ half h c d f g. found-one (value (unit h.search) (accel h)) half (low_course h) (high_course h) (passes h) c d f g
