use Rattle.std.proofs.Common.{◌≡◌, ℕ, List, refl, ap, arith, rules}
use Rattle.acas_frac.specs.Fraction.{Fraction}
use Rattle.acas_flight.specs.Curves.{approach}
use Rattle.acas_areas.specs.Flights.{Flight, value}
use Rattle.acas_areas.specs.Passes.{IsFound, Pass, at_high, at_low, between}
use Rattle.acas_areas.specs.Search.{high_flight, low_flight, passes, unit}
use Rattle.acas_areas.specs.Value.{IsWithinHalf}
use Rattle.acas_flight_examples.specs.Searched.{level_search}
use Rattle.acas_flight_examples.proofs.searches.the_low_flight_is_tried_first.Goals as goal

in_contact : IsWithinHalf 120 (value (unit level_search) (low_flight level_search))
unfolding approach
in_contact = search rules

-- where the low flight is in contact it is found
low_alone : (value : Flight → Fraction) (half : ℕ) (low high : Flight) (ps : List (Pass Flight)) (c : Flight) → IsWithinHalf half (value low) → IsFound value half low high ps c → c ≡ low
low_alone value half low high ps _ within (at_low w) = refl
low_alone value half low high ps _ within (at_high not w) = absurd (not within)
low_alone value half low high ps _ within (between c not n e) = absurd (not within)

pub returns-clause-found : goal.returns-clause-found
returns-clause-found c = at_low in_contact

pub returns-clause-alone : goal.returns-clause-alone
returns-clause-alone c = λ flight found. low_alone (value (unit level_search)) 120 (low_flight level_search) (high_flight level_search) (passes level_search) flight in_contact found

pub returns-clause-not_high : goal.returns-clause-not_high
returns-clause-not_high c = λ found.
    let same = low_alone (value (unit level_search)) 120 (low_flight level_search) (high_flight level_search) (passes level_search) (high_flight level_search) in_contact found in
    omega (arith, ap (λ (f : Flight). f.time) same)
