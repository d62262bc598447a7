use Rattle.acas_manoeuvre_lemmas.proofs.Flown.{flown-meets, meets-flown}
use Rattle.acas_flight_laws.proofs.manoeuvres.intruders_fly_as_pilots.Goals as goal

pub returns : goal.returns
returns c = λ may v flight h. (flown-meets may v flight, meets-flown may v flight h)
