use Rattle.acas_manoeuvre_lemmas.proofs.Windows.{in_window}
use Rattle.acas_flight_laws.proofs.manoeuvres.danger_by_a_manoeuvre_is_in_the_window.Goals as goal

pub returns : goal.returns
returns c = in_window
