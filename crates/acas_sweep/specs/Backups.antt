-- What the value of a choice is formed of, and what is known of it.
use Rattle.std.specs.Prelude.{◌≡◌, ℕ, ◌+◌, ◌*◌, ◌<◌, ◌≤◌, ℤ, unsigned_abs, List, length}
use Rattle.acas_spec.specs.Model.{ModelData, states, vertices}
use Rattle.acas_spec.specs.declared.parts.Choice.{Choice}
use Rattle.acas_grid.specs.States.{vertex_at}
use Rattle.acas_units.specs.declared.pair.Pair.{Pair}
use Rattle.acas_means.specs.Layer.{AreWithin, layer_values}
use Rattle.acas_means.specs.Values.{value_with_cost}
use Rattle.acas_means.specs.declared.layer.Side.{Side}

-- there is the vertex of a number, and the layer below has a pair for each state
pub record IsVertexOver (m : ModelData) (v : ℕ) (layer : List Pair) : Type 0 where
  pub vertex : v < vertices m.grid
  pub below : length layer ≡ states m.grid

-- so there is, and the model has the advisory of a number
pub record IsStateOver (m : ModelData) (v a : ℕ) (layer : List Pair) : Type 0 where
  pub over : IsVertexOver m v layer
  pub advisory : a < m.grid.advisories

-- the value of a choice at the vertex of a number: at most the cost of the choice larger than the largest value below
pub record IsBackup (round : ℤ → ℤ → ℤ) (m : ModelData) (side : Side) (layer : List Pair) (v : ℕ) (c : Choice) (z : ℤ) : Type 0 where
  pub value : z ≡ value_with_cost round m (layer_values side m.grid layer) (vertex_at m.grid v) c
  pub bounded : (most : ℕ) → AreWithin most side layer → unsigned_abs z ≤ most + 1_000_000 * unsigned_abs c.cost
