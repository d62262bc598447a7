-- What is made once for all entries under one present advisory.
use Rattle.std.specs.Prelude.{◌≡◌, ℕ, pos, ◌<◌, ◌≤◌, ◌^◌, unsigned_abs, length, get_or}
use Rattle.acas_spec.specs.Limits.{IsModel}
use Rattle.acas_spec.specs.Model.{ModelData, choices_at}
use Rattle.acas_grid.specs.Grid.{state_number}
use Rattle.acas_process.specs.Values.{millionths}
use Rattle.acas_process.specs.Cost.{cost_of}
use Rattle.acas_means.specs.Choices.{listed_choice}
use Rattle.acas_bounds.specs.declared.plane.Plane.{Plane}
use Rattle.acas_bounds.specs.declared.plane.PlaneChoice.{PlaneChoice}

-- the choice that the array holds where the list ends
abbrev pub no_plane_choice : PlaneChoice
no_plane_choice = record { advisory = 0; first = 0; cost = pos 0 }

-- where p is present, a choice has the number of its advisory's first state, and its cost in millionths, which is narrow
pub record IsPlaneChoice (m : ModelData) (p : ℕ) (c : PlaneChoice) : Type 0 where
  pub inside : c.advisory < m.grid.advisories
  pub first : c.first ≡ state_number m.grid c.advisory 0
  pub cost : c.cost ≡ millionths (cost_of m p c.advisory)
  pub narrow : unsigned_abs c.cost < 2 ^ 62

-- a plane has a present advisory of the model, and each choice of its list, in its order
pub record IsPlane (m : ModelData) (plane : Plane) : Type 0 where
  pub valid : IsModel m
  pub present : plane.present < m.grid.advisories
  pub count : plane.count ≡ length (choices_at m plane.present)
  pub few : plane.count ≤ 16
  pub advisory : (k : ℕ) → k < plane.count
      → (get_or plane.choices k no_plane_choice).advisory ≡ (listed_choice m plane.present k).advisory
  pub choice : (k : ℕ) → k < plane.count → IsPlaneChoice m plane.present (get_or plane.choices k no_plane_choice)

-- an advisory is that of the choice at a place
pub record IsAtPlace (plane : Plane) (a place : ℕ) : Type 0 where
  pub within : place < plane.count
  pub is : (get_or plane.choices place no_plane_choice).advisory ≡ a
