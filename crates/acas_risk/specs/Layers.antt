-- What the inner functions say of a layer that is written over the one below, by what a policy gives in each state.
use Rattle.std.specs.Prelude.{◌≡◌, ℕ, ◌/◌, ◌%◌, ◌^◌, ◌<◌, ◌≤◌, ℤ, ◌+ℤ◌, unsigned_abs, List}
use Rattle.acas_spec.specs.Model.{GridData, ModelData, states, vertices}
use Rattle.acas_spec.specs.Table.{Policy}
use Rattle.acas_frac.specs.Rounding.{down, up}
use Rattle.acas_grid.specs.States.{state_present, state_vertex}
use Rattle.acas_units.specs.declared.pair.Pair.{Pair}
use Rattle.acas_process.specs.Values.{mean_value}
use Rattle.acas_means.specs.Columns.{columns}
use Rattle.acas_means.specs.Layer.{layer_values, pair_at, value_at}
use Rattle.acas_means.specs.declared.layer.Side.{Side}
use Rattle.acas_means.specs.declared.layer.Side.TheVariants.{Lower, Upper}
use Rattle.acas_risk.specs.Counts.{second_cost}

-- the column of the vertex of a state by its number
abbrev pub column_at : GridData → ℕ → ℕ
column_at g s = s % vertices g % columns g

-- the place of that vertex's altitude
abbrev pub altitude_at : GridData → ℕ → ℕ
altitude_at g s = s % vertices g / columns g

-- a pair with a cost beside each of its values
abbrev pub with_cost : Pair → ℤ → Pair
with_cost mean cost = record { upper = mean.upper +ℤ cost; lower = mean.lower +ℤ cost }

-- what a policy gives with n seconds to go in the state of a number
abbrev pub given_at : GridData → Policy → ℕ → ℕ → ℕ
given_at g policy n s = policy n (state_present g s) (state_vertex g s)

-- what the second of a state by its number costs under what is given there
abbrev pub cost_at : GridData → List (List ℤ) → Policy → ℕ → ℕ → ℤ
cost_at g costs policy n s = second_cost costs (state_present g s) (given_at g policy n s)

-- a pair has both means at a state's vertex under the advisory that is given there, which is one of the model's, and that cost
pub record IsPlanned (g : GridData) (costs : List (List ℤ)) (policy : Policy) (n : ℕ) (means : List Pair) (s : ℕ) (pair : Pair)
    : Type 0 where
  pub known : given_at g policy n s < g.advisories
  pub value : pair ≡ with_cost (pair_at means (given_at g policy n s)) (cost_at g costs policy n s)

-- the same, with the means of the layer below
pub record IsOver (m : ModelData) (costs : List (List ℤ)) (policy : Policy) (n : ℕ) (below : List Pair) (s : ℕ) (pair : Pair)
    : Type 0 where
  pub known : given_at m.grid policy n s < m.grid.advisories
  pub upper : pair.upper
      ≡ mean_value up m (layer_values Upper m.grid below) (state_vertex m.grid s) (given_at m.grid policy n s)
      +ℤ cost_at m.grid costs policy n s
  pub lower : pair.lower
      ≡ mean_value down m (layer_values Lower m.grid below) (state_vertex m.grid s) (given_at m.grid policy n s)
      +ℤ cost_at m.grid costs policy n s

-- the pairs of the states in the columns below a number are over the layer below
pub record AreOver (m : ModelData) (costs : List (List ℤ)) (policy : Policy) (n : ℕ) (below : List Pair) (count : ℕ) (pairs : List Pair)
    : Type 0 where
  pub each : (s : ℕ) → s < states m.grid → column_at m.grid s < count → IsOver m costs policy n below s (pair_at pairs s)

-- there is room for the cost of a second beside each mean at a vertex
pub record LeaveRoom (g : GridData) (means : List Pair) : Type 0 where
  pub each : (side : Side) (a : ℕ) → a < g.advisories → unsigned_abs (value_at side means a) ≤ 2 ^ 62

-- no cost of a second is larger than that of the costliest choice of any model
pub record AreSmall (g : GridData) (costs : List (List ℤ)) : Type 0 where
  pub each : (p a : ℕ) → p < g.advisories → a < g.advisories → unsigned_abs (second_cost costs p a) ≤ 10 ^ 15
