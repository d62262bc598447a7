-- The numbers of vertices and states, and where a point stands on a grid.
use Rattle.std.specs.Prelude.{◌≡◌, ℕ, ◌+◌, ◌*◌, ◌<◌, ◌≤◌, length}
use Rattle.acas_units.specs.declared.limits.TheConstants.{GREATEST_ADVISORIES, GREATEST_HORIZON}
use Rattle.acas_spec.specs.Model.{GridData, vertices, states}
use Rattle.acas_grid.specs.Axis.{IsBetweenEnds, IsCell, clamp_to}
use Rattle.acas_spec.specs.declared.place.Point.{Point}
use Rattle.acas_spec.specs.declared.place.Vertex.{Vertex}

-- a grid has no more advisories, and a table over it goes back no more seconds, than a model may
pub record IsLimited (advisories horizon : ℕ) : Type 0 where
  pub few_advisories : advisories ≤ GREATEST_ADVISORIES
  pub short_horizon : horizon ≤ GREATEST_HORIZON

-- a vertex has a place on each of the three axes
pub record IsVertex (g : GridData) (y : Vertex) : Type 0 where
  pub i : y.i < length g.h
  pub j : y.j < length g.v0
  pub k : y.k < length g.v1

-- vertices are numbered with the place on the last axis running fastest
abbrev pub vertex_number : GridData → Vertex → ℕ
vertex_number g y = (y.i * length g.v0 + y.j) * length g.v1 + y.k

-- states are numbered advisory by advisory, each by the number of its vertex
abbrev pub state_number : GridData → ℕ → ℕ → ℕ
state_number g present vertex = present * vertices g + vertex

-- different vertices have different numbers, and these are the numbers below the count of vertices
pub record AreVerticesOneToOne (g : GridData) : Type 0 where
  pub below : (y : Vertex) → IsVertex g y → vertex_number g y < vertices g
  pub apart : (y z : Vertex) → IsVertex g y → IsVertex g z → vertex_number g y ≡ vertex_number g z → y ≡ z
  pub all : (number : ℕ) → number < vertices g → (y : Vertex) × IsVertex g y × (vertex_number g y ≡ number)

-- different states have different numbers, and these are the numbers below the count of states
pub record AreStatesOneToOne (g : GridData) : Type 0 where
  pub below : (p x : ℕ) → p < g.advisories → x < vertices g → state_number g p x < states g
  pub apart : (p q x y : ℕ) → x < vertices g → y < vertices g → state_number g p x ≡ state_number g q y
      → (p ≡ q) × (x ≡ y)
  pub all : (number : ℕ) → number < states g
      → (p : ℕ) × (x : ℕ) × (p < g.advisories) × (x < vertices g) × (state_number g p x ≡ number)

-- a point is inside a grid
pub record IsInside (g : GridData) (s : Point) : Type 0 where
  pub h : IsBetweenEnds g.h s.h
  pub v0 : IsBetweenEnds g.v0 s.v0
  pub v1 : IsBetweenEnds g.v1 s.v1

-- the nearest point of a grid
abbrev pub clamp_point : GridData → Point → Point
clamp_point g s = record { h = clamp_to g.h s.h; v0 = clamp_to g.v0 s.v0; v1 = clamp_to g.v1 s.v1 }

-- on each axis, the cell from the vertex's place to the next holds the point
pub record IsLowerCorner (g : GridData) (y : Vertex) (s : Point) : Type 0 where
  pub h : IsCell g.h y.i s.h
  pub v0 : IsCell g.v0 y.j s.v0
  pub v1 : IsCell g.v1 y.k s.v1
