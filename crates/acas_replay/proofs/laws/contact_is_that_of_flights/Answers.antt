use Rattle.acas_replay.proofs.FlightContacts.{of_flights}
use Rattle.acas_replay.proofs.laws.contact_is_that_of_flights.Goals as goal

pub returns : goal.returns
returns c = of_flights
