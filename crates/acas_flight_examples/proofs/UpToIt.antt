-- Where the pass up to the intruder's altitude ends.
use Rattle.std.proofs.Common.{[], ◌∷◌, pos, refl, arith}
use Rattle.acas_flight.specs.Curves.{approach}
use Rattle.acas_areas.specs.Halving.{ends, raises, lowers}
use Rattle.acas_areas.specs.Flights.{value}
use Rattle.acas_areas.specs.Passes.{EndsAt, IsLast, here}
use Rattle.acas_flight_examples.specs.Searched.{at_start, up_to_it}

third_is_last : IsLast up_to_it 3
third_is_last = record { reaches = omega arith; first = omega arith }

pub ends_there : EndsAt (value 1) 120 (up_to_it ∷ []) (at_start (pos 100))
unfolding approach
ends_there = here up_to_it [] 3 2 third_is_last refl (raises 0 3 2 (omega arith) refl (lowers 1 3 2 (omega arith) refl (ends 1 2 (omega arith))))
