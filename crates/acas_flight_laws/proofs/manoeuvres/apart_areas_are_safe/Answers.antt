use Rattle.acas_manoeuvre_lemmas.proofs.Safe.{apart-safe}
use Rattle.acas_flight_laws.proofs.manoeuvres.apart_areas_are_safe.Goals as goal

pub returns : goal.returns
returns c = λ half a may area w can some. apart-safe half a may area w can some
