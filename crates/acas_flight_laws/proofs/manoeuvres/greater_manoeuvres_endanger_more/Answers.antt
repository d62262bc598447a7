use Rattle.acas_manoeuvre_lemmas.proofs.Steadies.{more_danger}
use Rattle.acas_flight_laws.proofs.manoeuvres.greater_manoeuvres_endanger_more.Goals as goal

pub returns : goal.returns
returns c = more_danger
