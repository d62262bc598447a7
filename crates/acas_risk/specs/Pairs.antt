-- The values of a policy as pairs by the numbers of states, and of what they are bounds.
use Rattle.std.specs.Prelude.{◌≡◌, ℕ, ◌<◌, List, length}
use Rattle.acas_spec.specs.Model.{ModelData, states}
use Rattle.acas_spec.specs.Table.{Policy}
use Rattle.acas_frac.specs.Rounding.{down, up}
use Rattle.acas_grid.specs.States.{state_present, state_vertex}
use Rattle.acas_units.specs.declared.pair.Pair.{Pair}
use Rattle.acas_process.specs.Cost.{expected_cost}
use Rattle.acas_policies.specs.Policies.{AreBounds, AreChanceBounds, contact_chance, policy_values}
use Rattle.acas_means.specs.Layer.{pair_at}

-- the values of a policy with n seconds to go in the state of a number
abbrev pub policy_pair : ModelData → Policy → ℕ → ℕ → Pair
policy_pair m policy n s = record {
  upper = policy_values up m policy n (state_present m.grid s) (state_vertex m.grid s);
  lower = policy_values down m policy n (state_present m.grid s) (state_vertex m.grid s);
}

-- there is a pair for each state, and it has the values of a policy with n seconds to go
pub record ArePairsOf (m : ModelData) (policy : Policy) (n : ℕ) (pairs : List Pair) : Type 0 where
  pub count : length pairs ≡ states m.grid
  pub each : (s : ℕ) → s < states m.grid → pair_at pairs s ≡ policy_pair m policy n s

-- a pair is of bounds of the chance of contact under a policy, at the horizon in the state of a number
abbrev pub BoundsChance : ModelData → Policy → ℕ → Pair → Type 0
BoundsChance m policy s pair =
    let n : ℕ = m.grid.horizon in
    AreChanceBounds m n (contact_chance m policy n (state_present m.grid s) (state_vertex m.grid s)) pair.lower pair.upper

-- the same of what a policy costs
abbrev pub BoundsCost : ModelData → Policy → ℕ → Pair → Type 0
BoundsCost m policy s pair =
    let n : ℕ = m.grid.horizon in
    AreBounds m n (expected_cost m policy n (state_present m.grid s) (state_vertex m.grid s)) pair.lower pair.upper
