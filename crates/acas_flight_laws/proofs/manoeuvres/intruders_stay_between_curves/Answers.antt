use Rattle.acas_manoeuvre_lemmas.proofs.Envelope.{flown-above, flown-under}
use Rattle.acas_flight_laws.proofs.manoeuvres.intruders_stay_between_curves.Goals as goal

pub returns : goal.returns
returns c = record { high = λ may v flight p h f. flown-under may v flight p f; low = λ may v flight p h f. flown-above may v flight p f }
