-- What the inner functions say of the entries of a table, which stand one after the other, layer by layer.
use Rattle.std.specs.Prelude.{◌≡◌, ◌≢◌, ℕ, ◌+◌, ◌*◌, ◌%◌, ◌<◌, unsigned_abs, List, length, get_or}
use Rattle.acas_units.specs.declared.limits.TheConstants.{GREATEST_COST, GREATEST_HORIZON}
use Rattle.acas_spec.specs.Model.{GridData, ModelData, states, vertices}
use Rattle.acas_grid.specs.Grid.{state_number}
use Rattle.acas_grid.specs.States.{state_present, state_vertex}
use Rattle.acas_units.specs.declared.pair.Entry.{Entry}
use Rattle.acas_units.specs.declared.pair.Pair.{Pair}
use Rattle.acas_sweep.specs.Best.{IsOver, entry_at}
use Rattle.acas_means.specs.Layer.{AreWithin, pair_at}
use Rattle.acas_means.specs.declared.layer.Side.TheVariants.{Upper, Lower}
use Rattle.acas_sweep.specs.Turns.{turn}

-- the pair and the advice at a place
abbrev pub listed_entry : List Pair → List ℕ → ℕ → Entry
listed_entry pairs advice place = record { pair = pair_at pairs place; advice = get_or advice place 0 }

-- the largest value of a compiled table, up or down, in millionths: the largest cost at the end and of each second
abbrev pub greatest_value : ℕ
greatest_value = (GREATEST_HORIZON + 1) * (1_000_000 * unsigned_abs GREATEST_COST)

-- no value of these pairs is larger
pub record AreSmall (pairs : List Pair) : Type 0 where
  pub upper : AreWithin greatest_value Upper pairs
  pub lower : AreWithin greatest_value Lower pairs

-- a layer has such a pair for each state
pub record IsWhole (m : ModelData) (below : List Pair) : Type 0 where
  pub count : length below ≡ states m.grid
  pub small : AreSmall below

-- the entries of all states at the vertices whose turn is below a number are over the layer below
pub record AreOver (m : ModelData) (below : List Pair) (count : ℕ) (pairs : List Pair) (advice : List ℕ)
    : Type 0 where
  pub entry : (s : ℕ) → s < states m.grid → turn m.grid (s % vertices m.grid) < count
      → IsOver m below (state_present m.grid s) (state_vertex m.grid s) (listed_entry pairs advice s)

-- entries of other vertices stay as they are
pub record SameElsewhere (g : GridData) (vertex : ℕ) (pairs : List Pair) (advice : List ℕ) (pairs' : List Pair)
    (advice' : List ℕ) : Type 0 where
  pub entry : (s : ℕ) → s % vertices g ≢ vertex → listed_entry pairs' advice' s ≡ listed_entry pairs advice s

-- the first of a vertex's entries, by the number of a present advisory, stand at the states there
pub record AreWritten (g : GridData) (vertex count : ℕ) (entries : List Entry) (pairs : List Pair) (advice : List ℕ)
    : Type 0 where
  pub entry : (p : ℕ) → p < count → listed_entry pairs advice (state_number g p vertex) ≡ entry_at entries p
