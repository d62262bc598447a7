-- A layer of a table as lists over the states, in the order of their numbers.
use Rattle.std.specs.Prelude.{◌≡◌, ℕ, ◌<◌, ◌≤◌, ℤ, pos, unsigned_abs, List, length, get_or}
use Rattle.acas_spec.specs.Model.{GridData, ModelData, states}
use Rattle.acas_spec.specs.Table.{Table, Values}
use Rattle.acas_grid.specs.Grid.{state_number, vertex_number}
use Rattle.acas_grid.specs.States.{state_present, state_vertex}
use Rattle.acas_units.specs.declared.pair.Pair.{Pair}
use Rattle.acas_means.specs.declared.layer.Side.{Side}
use Rattle.acas_means.specs.declared.layer.Side.TheVariants.{Upper, Lower}

-- the pair that a list holds where it ends
abbrev pub no_pair : Pair
no_pair = record { upper = pos 0; lower = pos 0 }

-- the pair at a place, as that of a state by its number
abbrev pub pair_at : List Pair → ℕ → Pair
pair_at pairs place = get_or pairs place no_pair

-- the value of one side of a pair
abbrev pub value_of : Side → Pair → ℤ
value_of Upper p = p.upper
value_of Lower p = p.lower

-- the value of one side at a place
abbrev pub value_at : Side → List Pair → ℕ → ℤ
value_at side pairs place = value_of side (pair_at pairs place)

-- the values of one side of a layer, by present advisory and vertex
abbrev pub layer_values : Side → GridData → List Pair → Values
layer_values side g layer a y = value_at side layer (state_number g a (vertex_number g y))

-- no value of one side is more than so far from 0
pub record AreWithin (most : ℕ) (side : Side) (pairs : List Pair) : Type 0 where
  pub bounded : (place : ℕ) → place < length pairs → unsigned_abs (value_at side pairs place) ≤ most

-- for each state by its number, the pair has the values of a table with n seconds to go
pub record AreValuesOf (m : ModelData) (t : Table) (n : ℕ) (pairs : List Pair) : Type 0 where
  pub upper : (s : ℕ) → s < states m.grid
      → (pair_at pairs s).upper ≡ t.upper n (state_present m.grid s) (state_vertex m.grid s)
  pub lower : (s : ℕ) → s < states m.grid
      → (pair_at pairs s).lower ≡ t.lower n (state_present m.grid s) (state_vertex m.grid s)

-- for each state by its number, there is a pair and an advice, and they are those of a table with n seconds to go
pub record IsLayer (m : ModelData) (t : Table) (n : ℕ) (pairs : List Pair) (advice : List ℕ) : Type 0 where
  pub pair_count : length pairs ≡ states m.grid
  pub advice_count : length advice ≡ states m.grid
  pub values : AreValuesOf m t n pairs
  pub advices : (s : ℕ) → s < states m.grid
      → get_or advice s 0 ≡ t.advice n (state_present m.grid s) (state_vertex m.grid s)
