-- The plan of the flight that a search finds.
use Rattle.std.specs.Prelude.{ℕ, ◌*◌, ◌≤◌}
use Rattle.acas_spec.specs.Model.{ModelData}
use Rattle.acas_frac.specs.Fraction.{Fraction}
use Rattle.acas_flight.specs.Response.{Demand, demand_of}
use Rattle.acas_flight.specs.Window.{Times}
use Rattle.acas_flight.specs.Clear.{Area}
use Rattle.acas_flight.specs.Extremes.{IsLowExtreme, IsHighExtreme}
use Rattle.acas_areas.specs.Value.{thinnest}
use Rattle.acas_areas.specs.Flights.{Flight}
use Rattle.acas_areas.specs.Search.{Search, IsSearch, IsFound, CanMeet, unit}
use Rattle.acas_areas.specs.Limits.{IsEnd}
use Rattle.acas_areas.specs.View.{area_of, times_of}
use Rattle.acas_areas.specs.declared.parts.BoxState.{BoxState}
use Rattle.acas_areas.specs.declared.parts.Window.{Window}
use Rattle.acas_witness_plans.specs.declared.plan.Plan.{Plan}
use Rattle.acas_witness_plans.specs.Plans.{IsPlanOf}
use Rattle.acas_rulings.specs.Witness.{search_between}

-- the plan is that of the flight that a search finds
pub record IsFoundPlan (half : ℕ) (s : Search) (p : Plan) : Type 0 where
  pub flight : Flight
  pub found : IsFound half s flight
  pub point : IsPlanOf (unit s) flight p

-- the plan is that of the flight that the search of the area finds
pub record IsPlanIn (half : ℕ) (a : Demand) (area : Area) (w : Times) (p : Plan) : Type 0 where
  pub low : Fraction
  pub high : Fraction
  pub at_low : IsLowExtreme a area w low
  pub at_high : IsHighExtreme a area w high
  pub low_end : IsEnd low
  pub high_end : IsEnd high
  pub thick : thinnest ≤ 2 * half
  pub fine : IsSearch (search_between a area low high)
  pub can : CanMeet half (search_between a area low high)
  pub found : IsFoundPlan half (search_between a area low high) p

abbrev pub IsPlanFor : ModelData → ℕ → BoxState → Window → Plan → Type 0
IsPlanFor m advisory area window p = IsPlanIn m.half (demand_of m advisory) (area_of area) (times_of window) p
