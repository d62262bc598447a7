-- The least lower values that are found once for planes with the same choices.
use Rattle.std.specs.Int.{int_min}
use Rattle.std.specs.Prelude.{◌≡◌, ℕ, ℤ, pos, ◌<◌, ◌+ℤ◌, List, length, get_or, drop}
use Rattle.acas_spec.specs.Model.{ModelData, choices_at, vertices}
use Rattle.acas_grid.specs.States.{vertex_at}
use Rattle.acas_units.specs.declared.pair.Pair.{Pair}
use Rattle.acas_process.specs.Compiled.{least}
use Rattle.acas_means.specs.Choices.{value_by_mean}
use Rattle.acas_means.specs.Layer.{value_at}
use Rattle.acas_means.specs.declared.layer.Side.TheVariants.{Lower}
use Rattle.acas_bounds.specs.Means.{formed_lower}

-- the least lower value, at the vertex of a number, of the choices where p is present from a place of their list on
abbrev pub least_from : ModelData → List Pair → ℕ → ℕ → ℕ → ℤ
least_from m means p place v =
    least (value_by_mean m p (formed_lower m means (vertex_at m.grid v))) (drop place (choices_at m p))

-- there is such a value for each vertex, by its number
pub record AreLeastsFrom (m : ModelData) (means : List Pair) (p place : ℕ) (leasts : List ℤ) : Type 0 where
  pub count : length leasts ≡ vertices m.grid
  pub each : (v : ℕ) → v < vertices m.grid → get_or leasts v (pos 0) ≡ least_from m means p place v

-- the values for the vertices are the least lower values of all choices where p is present
abbrev pub AreLeasts : ModelData → List Pair → ℕ → List ℤ → Type 0
AreLeasts m means p leasts = AreLeastsFrom m means p 0 leasts

-- the value at each place is the lower mean there with a cost
pub record AreWithCost (means : List Pair) (cost : ℤ) (leasts : List ℤ) : Type 0 where
  pub each : (v : ℕ) → v < length means → get_or leasts v (pos 0) ≡ value_at Lower means v +ℤ cost

-- the value at each place is the lesser of the lower mean there with a cost and the value before
pub record AreLowered (means : List Pair) (cost : ℤ) (old new : List ℤ) : Type 0 where
  pub each : (v : ℕ) → v < length means
      → get_or new v (pos 0) ≡ int_min (value_at Lower means v +ℤ cost) (get_or old v (pos 0))

-- two present advisories have the same choices
abbrev pub HaveSameChoices : ModelData → ℕ → ℕ → Type 0
HaveSameChoices m p q = choices_at m p ≡ choices_at m q
