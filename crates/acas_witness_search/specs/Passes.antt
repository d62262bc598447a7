-- Where a pass, or those from one on, ends.
use Rattle.std.specs.Prelude.{◌≡◌, ℕ, List, [], ◌∷◌, true, false}
use Rattle.acas_frac.specs.Fraction.{Fraction}
use Rattle.acas_areas.specs.Halving.{HalvesTo}
use Rattle.acas_areas.specs.Flights.{Flight, value}
use Rattle.acas_areas.specs.Passes.{Pass, IsLast, EndsAt, below_at}
use Rattle.acas_areas.specs.Search.{Search, unit, passes, altitude_pass, intruder_pass, aim_pass, pull_pass, hold_pass, own_pass}
use Rattle.acas_witness_plans.specs.declared.plan.Plan.{Plan}
use Rattle.acas_witness_search.specs.declared.survey.Survey.{Survey}
use Rattle.acas_witness_search.specs.declared.quantity.Quantity.{Quantity}
use Rattle.acas_witness_search.specs.declared.quantity.Quantity.TheVariants.{Time, Altitude, Intruder, Aim, Pull, Hold, Own}
use Rattle.acas_witness_plans.specs.Plans.{IsPlanOf, CanBeFlown}
use Rattle.acas_witness_search.specs.Surveys.{search_of}

-- the last flight of the pass is below
pub record IsMissed {F : Type 0} (value : F → Fraction) (half : ℕ) (p : Pass F) : Type 0 where
  pub last : ℕ
  pub is_last : IsLast p last
  pub below : below_at value half p last ≡ true

-- the last flight of the pass is not below, and the flight at which its halving ends is such a one
pub record IsHit {F : Type 0} (value : F → Fraction) (half : ℕ) (p : Pass F) (Is : F → Type 0) : Type 0 where
  pub last : ℕ
  pub at_end : ℕ
  pub is_last : IsLast p last
  pub not_below : below_at value half p last ≡ false
  pub halves : HalvesTo (below_at value half p) 0 last at_end
  pub point : Is (p.point at_end)

-- the flight at which the passes end is such a one
pub record IsEndOf {F : Type 0} (value : F → Fraction) (half : ℕ) (passes : List (Pass F)) (Is : F → Type 0) : Type 0 where
  pub flight : F
  pub ends : EndsAt value half passes flight
  pub point : Is flight

-- the passes from that over a quantity on
abbrev pub passes_from : Quantity → Search → List (Pass Flight)
passes_from Time s = passes s
passes_from Altitude s = altitude_pass s ∷ intruder_pass s ∷ aim_pass s ∷ pull_pass s ∷ hold_pass s ∷ own_pass s ∷ []
passes_from Intruder s = intruder_pass s ∷ aim_pass s ∷ pull_pass s ∷ hold_pass s ∷ own_pass s ∷ []
passes_from Aim s = aim_pass s ∷ pull_pass s ∷ hold_pass s ∷ own_pass s ∷ []
passes_from Pull s = pull_pass s ∷ hold_pass s ∷ own_pass s ∷ []
passes_from Hold s = hold_pass s ∷ own_pass s ∷ []
passes_from Own s = own_pass s ∷ []

-- ---- the same of a survey

-- the plan is that of the flight, and can be flown
abbrev pub IsFlownPlan : ℕ → Plan → Flight → Type 0
IsFlownPlan q plan c = IsPlanOf q c plan × CanBeFlown plan

abbrev pub IsMissedIn : Survey → (Search → Pass Flight) → Type 0
IsMissedIn s pass = IsMissed (value (unit (search_of s))) s.half (pass (search_of s))

abbrev pub IsHitIn : Survey → (Search → Pass Flight) → Plan → Type 0
IsHitIn s pass plan = IsHit (value (unit (search_of s))) s.half (pass (search_of s)) (IsFlownPlan (unit (search_of s)) plan)

abbrev pub IsEndIn : Survey → (Search → List (Pass Flight)) → Plan → Type 0
IsEndIn s passes plan = IsEndOf (value (unit (search_of s))) s.half (passes (search_of s)) (IsFlownPlan (unit (search_of s)) plan)
