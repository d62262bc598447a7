-- The turns of the vertices: each number below the count of vertices is that of one vertex.
use Rattle.std.proofs.Common.{◌≡◌, ℕ, ◌+◌, ◌*◌, ◌/◌, ◌%◌, ◌<◌, length, refl, sym, ◌∙◌, arith}
use Rattle.std.proofs.lemmas.Nat.{div-add-mod', div-mul-add, div_below, mod-mul-add, mod_below, same_from_place}
use Rattle.acas_spec.specs.Model.{GridData, vertices}
use Rattle.acas_grid.proofs.Vertices.{row_below, some_width}
use Rattle.acas_means.specs.Columns.{columns, vertex_in}
use Rattle.acas_means.proofs.ColumnLaws.{all_columns}
use Rattle.acas_sweep.specs.Turns.{turn}

-- the place of a vertex among the altitudes
altitude_below : (g : GridData) (v : ℕ) → v < vertices g → v / columns g < length g.h
altitude_below g v inside =
    let here : v < length g.h * columns g = omega (arith, all_columns g) in
    div_below v (columns g) (length g.h) (some_width (length g.h) (columns g) v here) here

-- the vertex of a column at a place
pub turn-vertex_in : (g : GridData) (column i : ℕ) → column < columns g → turn g (vertex_in g column i) ≡ column * length g.h + i
turn-vertex_in g column i inside = rw (mod-mul-add i (columns g) column inside, div-mul-add i (columns g) column inside) refl

pub turn-below : (g : GridData) (v : ℕ) → v < vertices g → turn g v < vertices g
turn-below g v inside =
    let here : v < length g.h * columns g = omega (arith, all_columns g) in
    let column = mod_below v (columns g) (some_width (length g.h) (columns g) v here) in
    omega (arith, all_columns g, row_below (columns g) (length g.h) (v % columns g) (v / columns g) column (altitude_below g v inside))

pub turn-same : (g : GridData) (v w : ℕ) → v < vertices g → w < vertices g → turn g v ≡ turn g w → v ≡ w
turn-same g v w inside here same =
    let parts = same_from_place (v % columns g) (v / columns g) (w % columns g) (w / columns g) (length g.h) (altitude_below g v inside) (altitude_below g w here) same in
    sym (div-add-mod' v (columns g)) ∙ rw (parts.0, parts.1) refl ∙ div-add-mod' w (columns g)
