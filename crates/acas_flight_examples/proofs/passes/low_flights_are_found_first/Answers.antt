use Rattle.std.proofs.Common.{◌≡◌, ap, refl, [], pos, arith}
use Rattle.std.proofs.lemmas.Int.{ints}
use Rattle.acas_flight.specs.Curves.{approach}
use Rattle.acas_areas.specs.Flights.{Flight, value}
use Rattle.acas_areas.specs.Passes.{IsFound, at_high, at_low, between}
use Rattle.acas_areas.specs.Value.{IsWithinHalf}
use Rattle.acas_flight_examples.specs.Numbers.{minus}
use Rattle.acas_flight_examples.specs.Searched.{at_start}
use Rattle.acas_flight_examples.proofs.UpToIt.{ends_there}
use Rattle.acas_flight_examples.proofs.passes.low_flights_are_found_first.Goals as goal

below_is_within : IsWithinHalf 120 (value 1 (at_start (pos 100)))
unfolding approach
below_is_within = record { not_below = omega (arith, ints); not_above = omega (arith, ints) }

above_is_within : IsWithinHalf 120 (value 1 (at_start (minus 100)))
unfolding approach
above_is_within = record { not_below = omega (arith, ints); not_above = omega (arith, ints) }

never_above : (c : Flight) → c ≡ at_start (minus 100) → IsFound (value 1) 120 (at_start (pos 100)) (at_start (minus 100)) [] c → ⊥
never_above _ e (at_low w) = omega (arith, ints, ap (λ (f : Flight). f.altitude) e)
never_above _ e (at_high n w) = n below_is_within
never_above _ e (between c n m p) = n below_is_within

pub returns-clause-low : goal.returns-clause-low
returns-clause-low c = at_low below_is_within

pub returns-clause-not_high : goal.returns-clause-not_high
returns-clause-not_high c found = never_above (at_start (minus 100)) refl found

pub returns-clause-high : goal.returns-clause-high
unfolding approach
returns-clause-high c = at_high (λ w. omega (arith, ints, w.not_below)) above_is_within

pub returns-clause-between : goal.returns-clause-between
unfolding approach
returns-clause-between c = between (at_start (pos 100)) (λ w. omega (arith, ints, w.not_below)) (λ w. omega (arith, ints, w.not_above)) ends_there
