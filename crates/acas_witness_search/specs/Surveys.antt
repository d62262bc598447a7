-- The search of a survey, and its passes.
use Rattle.std.specs.Prelude.{◌≡◌, ℕ, Bool, true, false, ℤ, pos, ◌*ℤ◌}
use Rattle.acas_flight.specs.Response.{Demand}
use Rattle.acas_areas.specs.Chases.{demand_from}
use Rattle.acas_areas.specs.View.{area_of}
use Rattle.acas_areas.specs.Value.{is_below}
use Rattle.acas_areas.specs.Flights.{Flight, value}
use Rattle.acas_areas.specs.Passes.{Pass, below_at}
use Rattle.acas_areas.specs.Search.{Search, unit, rate_step, high_flight_from, high_flight, time_pass, altitude_pass, intruder_pass, aim_pass, pull_pass, hold_pass, own_pass}
use Rattle.acas_witness_search.specs.declared.survey.Survey.{Survey}
use Rattle.acas_witness_search.specs.declared.quantity.Quantity.{Quantity}
use Rattle.acas_witness_search.specs.declared.quantity.Quantity.TheVariants.{Time, Altitude, Intruder, Aim, Pull, Hold, Own}
use Rattle.acas_witness_plans.specs.declared.plan.Plan.{Plan}
use Rattle.acas_witness_plans.specs.Plans.{IsPlanOf}

-- what the advisory of a survey asks
abbrev pub asked_in : Survey → Demand
asked_in s = demand_from s.lo s.hi s.pull s.limit s.delay

-- what a survey searches
abbrev pub search_of : Survey → Search
search_of s = record { demand = asked_in s; area = area_of s.area; low = s.low; high = s.high }

-- the pass over a quantity
abbrev pub pass_of : Quantity → Search → Pass Flight
pass_of Time s = time_pass s
pass_of Altitude s = altitude_pass s
pass_of Intruder s = intruder_pass s
pass_of Aim s = aim_pass s
pass_of Pull s = pull_pass s
pass_of Hold s = hold_pass s
pass_of Own s = own_pass s

-- ---- the flights of a survey

-- the plan is that of the flight of that number in a pass
abbrev pub IsPointOf : Survey → (Search → Pass Flight) → ℕ → Plan → Type 0
IsPointOf s pass i p = IsPlanOf (unit (search_of s)) ((pass (search_of s)).point i) p

-- the plan is that of the high flight from a rate of so many steps
abbrev pub IsHighPlan : Survey → ℤ → Plan → Type 0
IsHighPlan s rate p = IsPlanOf (unit (search_of s)) (high_flight_from (search_of s) (rate *ℤ pos (rate_step (search_of s)))) p

-- the flight of that number in the pass over a quantity is below
abbrev pub below_in : Survey → Quantity → ℕ → Bool
below_in s q = below_at (value (unit (search_of s))) s.half (pass_of q (search_of s))

-- the first flight of a pass is below
abbrev pub StartsBelow : Survey → (Search → Pass Flight) → Type 0
StartsBelow s pass = below_at (value (unit (search_of s))) s.half (pass (search_of s)) 0 ≡ true

-- the high flight is not below
abbrev pub EndsNotBelow : Survey → Type 0
EndsNotBelow s = is_below s.half (value (unit (search_of s)) (high_flight (search_of s))) ≡ false
