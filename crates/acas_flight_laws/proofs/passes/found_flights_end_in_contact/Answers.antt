use Rattle.acas_pass_lemmas.proofs.Founds.{found-contact}
use Rattle.acas_flight_laws.proofs.passes.found_flights_end_in_contact.Goals as goal

pub returns : goal.returns
returns c = found-contact
