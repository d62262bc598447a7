use Rattle.acas_flight.specs.State.{IsInBox, IsInCell}
use Rattle.acas_flight_lemmas.proofs.Dangers.{endangered_on_the_way}
use Rattle.acas_flight_laws.proofs.flights.contact_on_the_way_endangers.Goals as goal

pub returns : goal.returns
returns c = record {
  cells = λ m n i j k a. endangered_on_the_way m a (IsInCell m n i j k);
  boxes = λ m box a. endangered_on_the_way m a (IsInBox box);
}
