-- The layers of a table, of which the first stand.
use Rattle.std.specs.Prelude.{◌≡◌, ℕ, ◌+◌, ◌*◌, ◌<◌, ◌≤◌, List, [], length, slice_range, vec_capacity}
use Rattle.acas_units.specs.declared.limits.TheConstants.{GREATEST_HORIZON}
use Rattle.acas_spec.specs.Model.{GridData, states}
use Rattle.acas_units.specs.declared.pair.Pair.{Pair}
use Rattle.acas_base.specs.declared.layers.Layers.TheInside.{Inside}

-- layers from no second to go up, one after the other, each with so many states: so many stand, of one more than the
-- horizon
pub record LayersData : Type 0 where
  pub horizon : ℕ
  pub states : ℕ
  pub count : ℕ
  pub pairs : List Pair
  pub advice : List ℕ

-- the fields of `Layers`
abbrev pub layers_view : Inside → LayersData
layers_view l = record {
  horizon = l.horizon;
  states = l.states;
  count = l.count;
  pairs = l.pairs.items;
  advice = l.advice.items;
}

-- the layers that stand are whole, and there is room for all
pub record HaveRoom (l : Inside) : Type 0 where
  pub limited : l.horizon ≤ GREATEST_HORIZON
  pub few : l.count ≤ l.horizon + 1
  pub pairs : length l.pairs.items ≡ l.count * l.states
  pub advice : length l.advice.items ≡ l.count * l.states
  pub pairs_room : (l.horizon + 1) * l.states ≤ vec_capacity l.pairs
  pub advice_room : (l.horizon + 1) * l.states ≤ vec_capacity l.advice

-- the pairs with n seconds to go
abbrev pub pairs_of : LayersData → ℕ → List Pair
pairs_of layers n = slice_range layers.pairs (n * layers.states) (n * layers.states + layers.states)

-- the advices with n seconds to go
abbrev pub advice_of : LayersData → ℕ → List ℕ
advice_of layers n = slice_range layers.advice (n * layers.states) (n * layers.states + layers.states)

-- no layers yet of a table over a grid
abbrev pub no_layers : GridData → LayersData
no_layers g = record { horizon = g.horizon; states = states g; count = 0; pairs = []; advice = [] }

-- all layers of a table over a grid
abbrev pub all_layers : GridData → List Pair → List ℕ → LayersData
all_layers g pairs advice = record {
  horizon = g.horizon;
  states = states g;
  count = g.horizon + 1;
  pairs = pairs;
  advice = advice;
}

-- one more layer stands, and those before it are the same
pub record GainsLayer (old new : LayersData) (pairs : List Pair) (advice : List ℕ) : Type 0 where
  pub horizon : new.horizon ≡ old.horizon
  pub states : new.states ≡ old.states
  pub count : new.count ≡ old.count + 1
  pub new_pairs : pairs_of new old.count ≡ pairs
  pub new_advice : advice_of new old.count ≡ advice
  pub same_pairs : (n : ℕ) → n < old.count → pairs_of new n ≡ pairs_of old n
  pub same_advice : (n : ℕ) → n < old.count → advice_of new n ≡ advice_of old n
