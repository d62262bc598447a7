-- The rows of a report of risks, by lists of values.
use Rattle.std.specs.Prelude.{◌≡◌, ℕ, length}
use Rattle.acas_spec.specs.Model.{GridData, ModelData, states}
use Rattle.acas_spec.specs.Table.{Policy}
use Rattle.acas_policies.specs.Policies.{always_clear, counting_contact}
use Rattle.acas_means.specs.Layer.{pair_at}
use Rattle.acas_risk.specs.Pairs.{ArePairsOf}
use Rattle.acas_risk.specs.RiskText.{RiskRow}
use Rattle.acas_risk.specs.declared.risk_values.RiskValues.{RiskValues}

-- what is said of the state of a number
abbrev pub row_at : RiskValues → ℕ → RiskRow
row_at values s = record {
  risk = pair_at values.risk.items s;
  clear = pair_at values.clear.items s;
  cost = pair_at values.cost.items s;
}

-- each list has a pair for each state
pub record AreOfStates (g : GridData) (values : RiskValues) : Type 0 where
  pub risk : length values.risk.items ≡ states g
  pub clear : length values.clear.items ≡ states g
  pub cost : length values.cost.items ≡ states g

-- the lists have the values at the horizon of the chances and of the cost under a policy
pub record AreRiskValues (m : ModelData) (policy : Policy) (values : RiskValues) : Type 0 where
  pub risk : ArePairsOf (counting_contact m) policy m.grid.horizon values.risk.items
  pub clear : ArePairsOf (counting_contact m) always_clear m.grid.horizon values.clear.items
  pub cost : ArePairsOf m policy m.grid.horizon values.cost.items
