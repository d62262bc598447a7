-- States by their numbers.
use Rattle.std.specs.Prelude.{◌≡◌, ℕ, ◌/◌, ◌%◌, ◌<◌, length}
use Rattle.acas_spec.specs.Model.{GridData, states, vertices}
use Rattle.acas_spec.specs.declared.place.Vertex.{Vertex}
use Rattle.acas_grid.specs.Grid.{IsVertex, state_number, vertex_number}

-- the vertex of a number, whose last place runs fastest
abbrev pub vertex_at : GridData → ℕ → Vertex
vertex_at g number = record {
  i = number / length g.v1 / length g.v0;
  j = number / length g.v1 % length g.v0;
  k = number % length g.v1;
}

-- the present advisory of a state's number
abbrev pub state_present : GridData → ℕ → ℕ
state_present g state = state / vertices g

-- the vertex of a state's number
abbrev pub state_vertex : GridData → ℕ → Vertex
state_vertex g state = vertex_at g (state % vertices g)

-- a vertex comes back from its number, and the number from its vertex
pub record AreVertexNumbersInverse (g : GridData) : Type 0 where
  pub vertex : (y : Vertex) → IsVertex g y → vertex_at g (vertex_number g y) ≡ y
  pub number : (n : ℕ) → n < vertices g → vertex_number g (vertex_at g n) ≡ n

-- the present advisory and the vertex come back from a state's number, and the number from these
pub record AreStateNumbersInverse (g : GridData) : Type 0 where
  pub present : (p x : ℕ) → x < vertices g → state_present g (state_number g p x) ≡ p
  pub vertex : (p : ℕ) (y : Vertex) → IsVertex g y → state_vertex g (state_number g p (vertex_number g y)) ≡ y
  pub number : (s : ℕ) → s < states g → state_number g (state_present g s) (vertex_number g (state_vertex g s)) ≡ s
