use Rattle.acas_flight.specs.Response.{demand_of}
use Rattle.acas_flight_lemmas.proofs.Models.{demand_can_be_met, scaled_can_be_met}
use Rattle.acas_flight_laws.proofs.flights.advisories_can_be_met.Goals as goal

pub returns : goal.returns
returns c = λ m a q f h p. scaled_can_be_met q (demand_of m a) p (demand_can_be_met m a f h)
