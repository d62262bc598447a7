-- Both means of a layer over the points to which a second leads: the upper values rounded up, the lower ones down.
use Rattle.std.specs.Prelude.{◌≡◌, ℕ, ◌<◌, List}
use Rattle.acas_spec.specs.Model.{ModelData, states}
use Rattle.acas_spec.specs.Table.{Table}
use Rattle.acas_spec.specs.declared.place.Vertex.{Vertex}
use Rattle.acas_frac.specs.Rounding.{down, up}
use Rattle.acas_grid.specs.States.{state_present, state_vertex}
use Rattle.acas_units.specs.declared.pair.Pair.{Pair}
use Rattle.acas_process.specs.Values.{mean_value}
use Rattle.acas_means.specs.Layer.{layer_values, pair_at}
use Rattle.acas_means.specs.declared.layer.Side.TheVariants.{Upper, Lower}

-- a pair has both means of the layer below at the vertex x under the advisory a
pub record AreMeansAt (m : ModelData) (below : List Pair) (x : Vertex) (a : ℕ) (pair : Pair) : Type 0 where
  pub upper : pair.upper ≡ mean_value up m (layer_values Upper m.grid below) x a
  pub lower : pair.lower ≡ mean_value down m (layer_values Lower m.grid below) x a

-- pairs by the number of an advisory have the means of the layer below at the vertex x
pub record AreVertexMeans (m : ModelData) (below : List Pair) (x : Vertex) (pairs : List Pair) : Type 0 where
  pub each : (a : ℕ) → a < m.grid.advisories → AreMeansAt m below x a (pair_at pairs a)

-- for each state by its number, the pair has the means of a table with n seconds to go, at the state's vertex under its advisory
pub record AreMeansOf (m : ModelData) (t : Table) (n : ℕ) (pairs : List Pair) : Type 0 where
  pub upper : (s : ℕ) → s < states m.grid
      → (pair_at pairs s).upper ≡ mean_value up m (t.upper n) (state_vertex m.grid s) (state_present m.grid s)
  pub lower : (s : ℕ) → s < states m.grid
      → (pair_at pairs s).lower ≡ mean_value down m (t.lower n) (state_vertex m.grid s) (state_present m.grid s)
