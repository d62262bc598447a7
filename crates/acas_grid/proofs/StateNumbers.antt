-- Vertices and states by their numbers.
use Rattle.std.proofs.Common.{◌≡◌, ℕ, ◌*◌, ◌/◌, ◌%◌, ◌<◌, length, ap, ◌∙◌}
use Rattle.std.proofs.lemmas.Nat.{div_below, mod_below, div-mul-add, mod-mul-add, div-add-mod'}
use Rattle.acas_spec.specs.Model.{GridData, states, vertices}
use Rattle.acas_spec.specs.declared.place.Vertex.{Vertex}
use Rattle.acas_grid.specs.Grid.{IsVertex, state_number, vertex_number}
use Rattle.acas_grid.specs.States.{AreStateNumbersInverse, AreVertexNumbersInverse, state_present, state_vertex, vertex_at}
use Rattle.acas_grid.proofs.Vertices.{from_parts, some_width, vertices-one_to_one}

pub IsVertex-vertex_at : (g : GridData) (n : ℕ) → n < vertices g → IsVertex g (vertex_at g n)
IsVertex-vertex_at g n here =
    let width = some_width (length g.h * length g.v0) (length g.v1) n here in
    let row = div_below n (length g.v1) (length g.h * length g.v0) width here in
    let rows = some_width (length g.h) (length g.v0) (n / length g.v1) row in
    record { i = div_below (n / length g.v1) (length g.v0) (length g.h) rows row; j = mod_below (n / length g.v1) (length g.v0) rows; k = mod_below n (length g.v1) width }

pub vertex_number-vertex_at : (g : GridData) (n : ℕ) → vertex_number g (vertex_at g n) ≡ n
vertex_number-vertex_at g n = from_parts (length g.v0) (length g.v1) n

pub vertex_at-vertex_number : (g : GridData) (y : Vertex) → IsVertex g y → vertex_at g (vertex_number g y) ≡ y
vertex_at-vertex_number g y is =
    let n = vertex_number g y in
    let all = vertices-one_to_one g in
    all.apart (vertex_at g n) y (IsVertex-vertex_at g n (all.below y is)) is (vertex_number-vertex_at g n)

pub state_present-state_number : (g : GridData) (p x : ℕ) → x < vertices g → state_present g (state_number g p x) ≡ p
state_present-state_number g p x inside = div-mul-add p (vertices g) x inside

pub state_vertex-state_number : (g : GridData) (p : ℕ) (y : Vertex) → IsVertex g y → state_vertex g (state_number g p (vertex_number g y)) ≡ y
state_vertex-state_number g p y is =
    let inside = (vertices-one_to_one g).below y is in
    ap (vertex_at g) (mod-mul-add p (vertices g) (vertex_number g y) inside) ∙ vertex_at-vertex_number g y is

pub state_number-parts : (g : GridData) (s : ℕ) → state_number g (state_present g s) (vertex_number g (state_vertex g s)) ≡ s
state_number-parts g s =
    ap (state_number g (state_present g s)) (vertex_number-vertex_at g (s % vertices g)) ∙ div-add-mod' s (vertices g)

pub state_present-below : (g : GridData) (s : ℕ) → s < states g → s / vertices g < g.advisories
state_present-below g s here = div_below s (vertices g) g.advisories (some_width g.advisories (vertices g) s here) here

pub vertex_numbers-inverse : (g : GridData) → AreVertexNumbersInverse g
vertex_numbers-inverse g = record { vertex = vertex_at-vertex_number g; number = λ n inside. vertex_number-vertex_at g n }

pub state_numbers-inverse : (g : GridData) → AreStateNumbersInverse g
state_numbers-inverse g = record {
  present = state_present-state_number g;
  vertex = state_vertex-state_number g;
  number = λ s inside. state_number-parts g s;
}
