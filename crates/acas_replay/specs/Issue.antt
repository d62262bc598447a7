-- The advice that a table issues at a state.
use Rattle.std.specs.Prelude.{◌≡◌, ℕ, ◌<◌, ◌≤◌, ◌⊎◌, pos, neg_ℤ, ◌-ℤ◌, ◌*ℤ◌, ◌≤ℤ◌, ◌<ℤ◌}
use Rattle.acas_spec.specs.Model.{GridData, ModelData}
use Rattle.acas_spec.specs.declared.place.Point.{Point}
use Rattle.acas_spec.specs.declared.place.Vertex.{Vertex}
use Rattle.acas_grid.specs.Grid.{IsVertex, clamp_point, state_number, vertex_number}
use Rattle.acas_base.specs.Advices.{AdvicesData, advice_at}
use Rattle.acas_process.specs.Step.{share}
use Rattle.acas_replay.specs.declared.state.EncounterState.{EncounterState}

-- the range comes within the radius in so many seconds
abbrev pub IsNearAfter : ModelData → EncounterState → ℕ → Type 0
IsNearAfter m s seconds = (s.range -ℤ pos m.radius) ≤ℤ (pos seconds *ℤ s.closing)

-- the least number of seconds, of at least 1, in which it does
pub record IsLayerOf (m : ModelData) (s : EncounterState) (layer : ℕ) : Type 0 where
  pub some : 1 ≤ layer
  pub near : IsNearAfter m s layer
  pub least : (other : ℕ) → 1 ≤ other → IsNearAfter m s other → layer ≤ other

-- no layer of the table advises the state: the intruder has passed and left the radius, or is farther away than the horizon
abbrev pub IsNotAdvised : ModelData → EncounterState → Type 0
IsNotAdvised m s = (s.range <ℤ neg_ℤ (pos m.radius)) ⊎ ((layer : ℕ) × IsLayerOf m s layer × (m.grid.horizon < layer))

-- the layer advises the state
pub record IsAdvisedIn (m : ModelData) (s : EncounterState) (layer : ℕ) : Type 0 where
  pub not_left : neg_ℤ (pos m.radius) ≤ℤ s.range
  pub is_layer : IsLayerOf m s layer
  pub tabled : layer ≤ m.grid.horizon

-- the vertex of the greatest share at a point, and of several the one of the least number
pub record IsNearestVertex (g : GridData) (s : Point) (y : Vertex) : Type 0 where
  pub vertex : IsVertex g y
  pub greatest : (z : Vertex) → IsVertex g z → share g s z ≤ share g s y
  pub least : (z : Vertex) → IsVertex g z → share g s z ≡ share g s y → vertex_number g y ≤ vertex_number g z

-- what is tabled in a layer that advises the state, under its present advisory, at the vertex nearest to its clamped point
pub record IsTabledFor (m : ModelData) (a : AdvicesData) (s : EncounterState) (advice : ℕ) : Type 0 where
  pub layer : ℕ
  pub advised : IsAdvisedIn m s layer
  pub vertex : Vertex
  pub nearest : IsNearestVertex m.grid (clamp_point m.grid s.point) vertex
  pub tabled : advice ≡ advice_at a layer (state_number m.grid s.present (vertex_number m.grid vertex))

-- The issued advice: clear of conflict where no layer advises the state, and else what is tabled for it.
abbrev pub IsIssued : ModelData → AdvicesData → EncounterState → ℕ → Type 0
IsIssued m a s advice = (IsNotAdvised m s × (advice ≡ 0)) ⊎ IsTabledFor m a s advice
