use Rattle.acas_manoeuvre_lemmas.proofs.Steadies.{steady_danger}
use Rattle.acas_flight_laws.proofs.manoeuvres.steady_intruders_may_manoeuvre.Goals as goal

pub returns : goal.returns
returns c = record { danger = steady_danger; safe = λ m box a may fit clear e. clear (steady_danger m box a may fit e) }
