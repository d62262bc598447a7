-- Means of a column by what they are taken from.
use Rattle.std.proofs.Common.{◌≡◌, ℕ, ◌<◌, ℤ, pos, List, length, get_or, ap, sym, subst, ◌∙◌, arith}
use Rattle.acas_spec.specs.Model.{GridData, ModelData}
use Rattle.acas_spec.specs.declared.place.Vertex.{Vertex}
use Rattle.acas_grid.specs.States.{vertex_at}
use Rattle.acas_units.specs.declared.pair.Pair.{Pair}
use Rattle.acas_means.specs.Columns.{columns, vertex_in}
use Rattle.acas_means.specs.Means.{AreMeansAt}
use Rattle.acas_means.specs.Reach.{AreChanges, AreLikes, own_rate}
use Rattle.acas_step_stencils.proofs.ColumnVertices.{vertex_at-vertex_in, vertex_in-lowest}
use Rattle.acas_step_columns.proofs.SharedMeans.{means_shared}

-- the own rate is the same at all vertices of a column
own_rate_in_column : (g : GridData) (column i : ℕ) → column < columns g → i < length g.h → own_rate g (vertex_at g column) ≡ own_rate g (vertex_at g (vertex_in g column i))
own_rate_in_column g column i inside here =
    ap (λ (n : ℕ). own_rate g (vertex_at g n)) (sym (vertex_in-lowest g column))
    ∙ ap (λ (y : Vertex). own_rate g y) (vertex_at-vertex_in g column 0 inside (omega (arith, here)))
    ∙ sym (ap (λ (y : Vertex). own_rate g y) (vertex_at-vertex_in g column i inside here))

-- the means at a vertex of a column under the advisory b are those under the advisory a
pub means_of_twin : (m : ModelData) (below : List Pair) (likes : List ℕ) (changes : List ℤ) (column i a b : ℕ) (pair : Pair) → column < columns m.grid → i < length m.grid.h
    → AreLikes m.grid below likes → AreChanges m (own_rate m.grid (vertex_at m.grid column)) changes → a < m.grid.advisories → b < m.grid.advisories
    → get_or likes b 0 ≡ get_or likes a 0 → get_or changes b (pos 0) ≡ get_or changes a (pos 0)
    → AreMeansAt m below (vertex_at m.grid (vertex_in m.grid column i)) b pair → AreMeansAt m below (vertex_at m.grid (vertex_in m.grid column i)) a pair
means_of_twin m below likes changes column i a b pair inside here alike are known earlier like change formed =
    means_shared m below likes (vertex_at m.grid (vertex_in m.grid column i)) changes a b pair alike
    (subst (λ (v : ℤ). AreChanges m v changes) (own_rate_in_column m.grid column i inside here) are) known earlier like change formed
