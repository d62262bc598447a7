use Rattle.acas_areas.specs.Flights.{value}
use Rattle.acas_areas.specs.Search.{high_flight, low_flight, passes, unit}
use Rattle.acas_pass_lemmas.proofs.Ends.{found-one}
use Rattle.acas_flight_laws.proofs.passes.found_flights_are_one.Goals as goal

pub returns : goal.returns
returns c = λ half s. found-one (value (unit s)) half (low_flight s) (high_flight s) (passes s)
