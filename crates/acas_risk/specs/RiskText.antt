-- What `risk` prints.
use Rattle.std.specs.Prelude.{ℕ, ◌<◌, List, [], ◌∷◌, ◌++◌, codes}
use Rattle.std.specs.Fmt.{decimal}
use Rattle.acas_spec.specs.Model.{ModelData, states}
use Rattle.acas_spec.specs.Table.{Policy}
use Rattle.acas_outside.specs.Printed.{millionths_text}
use Rattle.acas_units.specs.declared.pair.Pair.{Pair}
use Rattle.acas_outside.specs.Printing.{below}
use Rattle.acas_grid.specs.States.{state_present, state_vertex}
use Rattle.acas_command.specs.Fields.{field, state_fields}
use Rattle.acas_policies.specs.Policies.{always_clear, counting_contact}
use Rattle.acas_risk.specs.Pairs.{BoundsChance, BoundsCost, policy_pair}

-- what is said of a state: its chance of contact under a policy and under always clear, and what the policy costs
pub record RiskRow : Type 0 where
  pub risk : Pair
  pub clear : Pair
  pub cost : Pair

-- a word, and behind it a lower and an upper value
unfoldable pub bounds_text : List ℕ → Pair → List ℕ
bounds_text word pair = field word ++ field (millionths_text pair.lower) ++ millionths_text pair.upper

-- the line of the state of a number: the fields of the state, and what is said of it
unfoldable pub risk_line : ModelData → ℕ → RiskRow → List ℕ
risk_line m s row =
    state_fields m (state_present m.grid s) (state_vertex m.grid s)
    ++ field (bounds_text (codes "risk") row.risk)
    ++ field (bounds_text (codes "clear") row.clear)
    ++ bounds_text (codes "cost") row.cost
    ++ 10 ∷ []

-- a line for each state in order, and how many there are
abbrev pub risk_lines : ModelData → (ℕ → RiskRow) → List ℕ
risk_lines m rows =
    below (states m.grid) (λ s. risk_line m s (rows s)) ++ codes "states " ++ decimal (states m.grid) ++ 10 ∷ []

-- what is said of a state under a policy: the values of the chances and of the cost at the horizon
abbrev pub risk_row : ModelData → Policy → ℕ → RiskRow
risk_row m policy s = record {
  risk = policy_pair (counting_contact m) policy m.grid.horizon s;
  clear = policy_pair (counting_contact m) always_clear m.grid.horizon s;
  cost = policy_pair m policy m.grid.horizon s;
}

-- what is printed of a model and a policy
unfoldable pub risk_text : ModelData → Policy → List ℕ
risk_text m policy = risk_lines m (risk_row m policy)

-- what is said of each state are bounds of the chances and of the cost
pub record AreRisks (m : ModelData) (policy : Policy) (rows : ℕ → RiskRow) : Type 0 where
  pub risk : (s : ℕ) → s < states m.grid → BoundsChance m policy s (rows s).risk
  pub clear : (s : ℕ) → s < states m.grid → BoundsChance m always_clear s (rows s).clear
  pub cost : (s : ℕ) → s < states m.grid → BoundsCost m policy s (rows s).cost
