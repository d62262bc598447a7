-- What is kept of a table's layers, as they are read.
use Rattle.std.specs.Prelude.{◌≡◌, ℕ, ◌<◌, ◌≤◌, List, get_or}
use Rattle.acas_spec.specs.Model.{ModelData, states}
use Rattle.acas_grid.specs.States.{state_present}
use Rattle.acas_units.specs.declared.pair.Entry.{Entry}
use Rattle.acas_units.specs.declared.pair.Pair.{Pair}
use Rattle.acas_base.specs.Advices.{AdvicesData, AreAdvicesOf, advice_at}
use Rattle.acas_base.specs.Layers.{LayersData, advice_of, pairs_of}
use Rattle.acas_process.specs.Cost.{MayChoose}
use Rattle.acas_means.specs.Layer.{pair_at}
use Rattle.acas_table_text.specs.Shape.{shape_of}
use Rattle.acas_table_text.specs.Tables.{layer_at}
use Rattle.acas_table_text.specs.Text.{entry_at, layer_of}
use Rattle.acas_accept.specs.GivenTable.{entry_place}

-- the pair and the advice of a state
abbrev pub listed_entry : List Pair → List ℕ → ℕ → Entry
listed_entry pairs advice state = record { pair = pair_at pairs state; advice = get_or advice state 0 }

-- with at least one second to go, each advice of a layer's first states may be chosen under its present advisory
pub record MayBeChosen (m : ModelData) (n count : ℕ) (advice : List ℕ) : Type 0 where
  pub each : (state : ℕ) → 1 ≤ n → state < count
      → MayChoose m (state_present m.grid state) (get_or advice state 0)

-- the pairs and the advices of a layer's first states are those of the bytes
pub record AreRead (m : ModelData) (bytes : List ℕ) (n count : ℕ) (pairs : List Pair) (advice : List ℕ)
    : Type 0 where
  pub each : (state : ℕ) → state < count
      → listed_entry pairs advice state ≡ entry_at (shape_of m.grid) bytes (entry_place m.grid n state)

-- the advices of a layer are kept, and those of the layers below it are the same
pub record KeepsLayer (m : ModelData) (n : ℕ) (old new : AdvicesData) (advice : List ℕ) : Type 0 where
  pub are : AreAdvicesOf m new
  pub here : (state : ℕ) → state < states m.grid → advice_at new n state ≡ get_or advice state 0
  pub below : (k state : ℕ) → 1 ≤ k → k < n → state < states m.grid
      → advice_at new k state ≡ advice_at old k state

-- of a model's advices those of the layers below a number may be chosen under their present advisories
pub record AreAllowedBelow (m : ModelData) (count : ℕ) (advices : AdvicesData) : Type 0 where
  pub are : AreAdvicesOf m advices
  pub each : (n state : ℕ) → 1 ≤ n → n < count → state < states m.grid
      → MayChoose m (state_present m.grid state) (advice_at advices n state)

-- of advices those of the layers below a number are those of the bytes
pub record AreAdvicesBelow (m : ModelData) (bytes : List ℕ) (count : ℕ) (advices : AdvicesData) : Type 0 where
  pub each : (n state : ℕ) → 1 ≤ n → n < count → state < states m.grid
      → advice_at advices n state ≡ (entry_at (shape_of m.grid) bytes (entry_place m.grid n state)).advice

-- so many layers of a table of the model stand
pub record StandFor (m : ModelData) (n : ℕ) (layers : LayersData) : Type 0 where
  pub horizon : layers.horizon ≡ m.grid.horizon
  pub states : layers.states ≡ states m.grid
  pub count : layers.count ≡ n

-- of layers those below a number are those of the bytes
pub record AreLayersBelow (m : ModelData) (bytes : List ℕ) (count : ℕ) (layers : LayersData) : Type 0 where
  pub each : (n : ℕ) → n < count
      → layer_of (pairs_of layers n) (advice_of layers n) ≡ layer_at (shape_of m.grid) bytes n
