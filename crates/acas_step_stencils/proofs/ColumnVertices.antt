-- The vertices of a column, and the rates to which a second leads from them.
use Rattle.std.proofs.Common.{◌≡◌, ℕ, ◌+◌, ◌*◌, ◌/◌, ◌%◌, ◌<◌, length, ap, sym, ◌∙◌, arith}
use Rattle.std.proofs.lemmas.Nat.{div_below, div-add-mod', mod_below}
use Rattle.acas_spec.specs.Model.{GridData, ModelData}
use Rattle.acas_spec.specs.declared.place.Vertex.{Vertex}
use Rattle.acas_grid.specs.Grid.{IsVertex, vertex_number}
use Rattle.acas_grid.specs.States.{vertex_at}
use Rattle.acas_grid.proofs.StateNumbers.{vertex_at-vertex_number}
use Rattle.acas_grid.proofs.Vertices.{some_width}
use Rattle.acas_process.specs.Step.{moved}
use Rattle.acas_means.specs.Columns.{columns, vertex_in}

-- ---- the vertices of a column

numbered : (i j k m n column : ℕ) → j * n + k ≡ column → (i * m + j) * n + k ≡ i * (m * n) + column
numbered i j k m n column e = omega (arith, e)

-- the number of a vertex, by its column and its place of the altitudes
pub vertex_in-vertex_number : (g : GridData) (i j k : ℕ) → vertex_in g (j * length g.v1 + k) i ≡ vertex_number g (record { i = i; j = j; k = k })
vertex_in-vertex_number g i j k = sym (numbered i j k (length g.v0) (length g.v1) (j * length g.v1 + k) (omega arith))

-- the lowest vertex of a column has its number
pub vertex_in-lowest : (g : GridData) (column : ℕ) → vertex_in g column 0 ≡ column
vertex_in-lowest g column = omega arith

-- a vertex of a column has its place of the altitudes, and the two rates of the column
pub vertex_at-vertex_in : (g : GridData) (column i : ℕ) → column < columns g → i < length g.h → vertex_at g (vertex_in g column i) ≡ record { i = i; j = column / length g.v1; k = column % length g.v1 }
vertex_at-vertex_in g column i inside here =
    let width = some_width (length g.v0) (length g.v1) column inside in
    let j : ℕ = column / length g.v1 in
    let k : ℕ = column % length g.v1 in
    let y : Vertex = record { i = i; j = j; k = k } in
    let is : IsVertex g y = record { i = here; j = div_below column (length g.v1) (length g.v0) width inside; k = mod_below column (length g.v1) width } in
    ap (vertex_at g) (sym (numbered i j k (length g.v0) (length g.v1) column (div-add-mod' column (length g.v1)))) ∙ vertex_at-vertex_number g y is

-- and so has the lowest one
pub vertex_at-column : (g : GridData) (column i : ℕ) → column < columns g → i < length g.h → vertex_at g column ≡ record { i = 0; j = column / length g.v1; k = column % length g.v1 }
vertex_at-column g column i inside here =
    ap (vertex_at g) (sym (vertex_in-lowest g column)) ∙ vertex_at-vertex_in g column 0 inside (omega (arith, here))

-- ---- the points to which a second leads from them

-- a second leads from all vertices of a column to the same own rate
pub moved_in_column-v0 : (m : ModelData) (column i a q : ℕ) → column < columns m.grid → i < length m.grid.h →
    (moved m (vertex_at m.grid column) a q).v0 ≡ (moved m (vertex_at m.grid (vertex_in m.grid column i)) a q).v0
moved_in_column-v0 m column i a q inside here =
    ap (λ (y : Vertex). (moved m y a q).v0) (vertex_at-column m.grid column i inside here)
    ∙ sym (ap (λ (y : Vertex). (moved m y a q).v0) (vertex_at-vertex_in m.grid column i inside here))

-- and to the same intruder rate
pub moved_in_column-v1 : (m : ModelData) (column i a q : ℕ) → column < columns m.grid → i < length m.grid.h →
    (moved m (vertex_at m.grid column) a q).v1 ≡ (moved m (vertex_at m.grid (vertex_in m.grid column i)) a q).v1
moved_in_column-v1 m column i a q inside here =
    ap (λ (y : Vertex). (moved m y a q).v1) (vertex_at-column m.grid column i inside here)
    ∙ sym (ap (λ (y : Vertex). (moved m y a q).v1) (vertex_at-vertex_in m.grid column i inside here))
