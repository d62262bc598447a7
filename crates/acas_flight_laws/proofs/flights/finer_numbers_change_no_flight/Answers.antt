use Rattle.acas_flight_lemmas.proofs.Finer.{finer_meet, climb_finer, lasting_finer}
use Rattle.acas_flight_laws.proofs.flights.finer_numbers_change_no_flight.Goals as goal

pub returns : goal.returns
returns c = record { lasts = lasting_finer; climbs = climb_finer; meets = finer_meet }
