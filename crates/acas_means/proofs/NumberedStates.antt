-- Layers by the states' numbers and by vertices.
use Rattle.std.proofs.Common.{◌≡◌, ℕ, ◌%◌, ◌<◌, List, ap, ◌∙◌}
use Rattle.std.proofs.lemmas.Nat.{mod_below}
use Rattle.acas_spec.specs.Model.{GridData, states, vertices}
use Rattle.acas_spec.specs.Table.{Values}
use Rattle.acas_spec.specs.declared.place.Vertex.{Vertex}
use Rattle.acas_grid.specs.Grid.{IsVertex, state_number, vertex_number}
use Rattle.acas_grid.specs.States.{state_present, state_vertex}
use Rattle.acas_grid.proofs.StateNumbers.{IsVertex-vertex_at, state_present-state_number, state_vertex-state_number}
use Rattle.acas_grid.proofs.Vertices.{some_width, states-one_to_one, vertices-one_to_one}
use Rattle.acas_units.specs.declared.pair.Pair.{Pair}
use Rattle.acas_means.specs.Layer.{layer_values, value_at}
use Rattle.acas_means.specs.declared.layer.Side.{Side}

pub IsVertex-state_vertex : (g : GridData) (s : ℕ) → s < states g → IsVertex g (state_vertex g s)
IsVertex-state_vertex g s here = IsVertex-vertex_at g (s % vertices g) (mod_below s (vertices g) (some_width g.advisories (vertices g) s here))

pub state_number-below : (g : GridData) (p : ℕ) (y : Vertex) → p < g.advisories → IsVertex g y → state_number g p (vertex_number g y) < states g
state_number-below g p y known inside = (states-one_to_one g).below p (vertex_number g y) known ((vertices-one_to_one g).below y inside)

-- values that are known at each state's number are known under each advisory at each vertex
pub layer_values-is : (g : GridData) (side : Side) (pairs : List Pair) (values : Values) → ((s : ℕ) → s < states g → value_at side pairs s ≡ values (state_present g s) (state_vertex g s))
    → (a : ℕ) (y : Vertex) → a < g.advisories → IsVertex g y → layer_values side g pairs a y ≡ values a y
layer_values-is g side pairs values each a y known inside =
    let s : ℕ = state_number g a (vertex_number g y) in
    each s (state_number-below g a y known inside)
    ∙ ap (λ (p : ℕ). values p (state_vertex g s)) (state_present-state_number g a (vertex_number g y) ((vertices-one_to_one g).below y inside))
    ∙ ap (λ (x : Vertex). values a x) (state_vertex-state_number g a y inside)
