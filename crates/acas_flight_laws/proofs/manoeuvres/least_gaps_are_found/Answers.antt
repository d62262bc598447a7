use Rattle.acas_manoeuvre_lemmas.proofs.FirstTimes.{first_least_time}
use Rattle.acas_manoeuvre_lemmas.proofs.Stays.{stays-at, below-turned}
use Rattle.acas_flight_laws.proofs.manoeuvres.least_gaps_are_found.Goals as goal

pub returns : goal.returns
returns c = record { first = first_least_time; above = λ half r w p s is. stays-at half r w p s is; turned = below-turned }
