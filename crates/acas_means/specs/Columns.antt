-- The columns of a grid: the vertices that have the same rates, altitude by altitude.
use Rattle.std.specs.Prelude.{ℕ, ◌+◌, ◌*◌, ◌<◌, ℤ, List, [], length, get_or}
use Rattle.acas_spec.specs.Model.{GridData, ModelData}
use Rattle.acas_grid.specs.States.{vertex_at}
use Rattle.acas_units.specs.declared.pair.Pair.{Pair}
use Rattle.acas_means.specs.Layer.{AreWithin}
use Rattle.acas_means.specs.Means.{AreMeansAt, AreVertexMeans}
use Rattle.acas_means.specs.Reach.{AreChanges, own_rate}
use Rattle.acas_means.specs.declared.layer.Side.{Side}

-- how many columns a grid has: one for each own rate and intruder rate, numbered like the vertices at the lowest altitude
abbrev pub columns : GridData → ℕ
columns g = length g.v0 * length g.v1

-- the number of the vertex of a column at a place of the altitudes
abbrev pub vertex_in : GridData → ℕ → ℕ → ℕ
vertex_in g column i = i * columns g + column

-- what a list by the places of the altitudes holds at one of them
abbrev pub pairs_at : List (List Pair) → ℕ → List Pair
pairs_at lists i = get_or lists i []

-- lists by the places of the altitudes have the means of the layer below at the vertices of a column
pub record AreColumnMeans (m : ModelData) (below : List Pair) (column : ℕ) (lists : List (List Pair)) : Type 0 where
  pub each : (i : ℕ) → i < length m.grid.h
      → AreVertexMeans m below (vertex_at m.grid (vertex_in m.grid column i)) (pairs_at lists i)

-- a pair has both means of the layer below at the vertex of a column at a place of the altitudes, under the advisory a
abbrev pub AreMeansIn : ModelData → List Pair → ℕ → ℕ → ℕ → Pair → Type 0
AreMeansIn m below column i a pair = AreMeansAt m below (vertex_at m.grid (vertex_in m.grid column i)) a pair

-- the changes of the own rate of a column
abbrev pub AreColumnChanges : ModelData → ℕ → List ℤ → Type 0
AreColumnChanges m column changes = AreChanges m (own_rate m.grid (vertex_at m.grid column)) changes

-- no value of one side is more than so far from 0, in none of the lists
pub record AreAllWithin (most : ℕ) (side : Side) (lists : List (List Pair)) : Type 0 where
  pub each : (i : ℕ) → AreWithin most side (pairs_at lists i)
