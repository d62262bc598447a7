-- The areas of cells are of rates within the limits, in order.
use Rattle.std.proofs.Common.{ℕ, ◌+◌, ◌<◌, arith, List, length, ℤ, ◌≤ℤ◌}
use Rattle.std.proofs.lemmas.Int.{ints}
use Rattle.acas_units.specs.declared.limits.TheConstants.{GREATEST_RATE, LEAST_RATE}
use Rattle.acas_spec.specs.Axis.{IsAxis, IsWithin, Rises, place_value}
use Rattle.acas_flight.specs.State.{from_place}
use Rattle.acas_areas.specs.Search.{AreRates}

pub rises_at : (axis : List ℤ) (place : ℕ) → IsAxis axis → place + 1 < length axis → place_value axis place ≤ℤ place_value axis (place + 1)
unfolding Rises
rises_at axis place is within = let l = is.rising place within in omega (arith, ints, l)

pub rates_at : (axis : List ℤ) (place : ℕ) → IsAxis axis → IsWithin LEAST_RATE GREATEST_RATE axis → place + 1 < length axis → AreRates (from_place axis place)
rates_at axis place is bounded within =
    let least = bounded.bounded place (omega arith) in
    let greatest = bounded.bounded (place + 1) within in
    record { least = omega (arith, ints, least.low, least.high); greatest = omega (arith, ints, greatest.low, greatest.high); ordered = rises_at axis place is within }
