use Rattle.acas_flight_lemmas.proofs.Cuts.{curves_bound_climbs}
use Rattle.acas_flight_laws.proofs.flights.curves_bound_climbs.Goals as goal

pub returns : goal.returns
returns c = record {
  low = λ a v r t fine m h. (curves_bound_climbs a v r t fine m h).0;
  high = λ a v r t fine m h. (curves_bound_climbs a v r t fine m h).1;
}
