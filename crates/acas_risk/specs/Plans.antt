-- The policy of a plan.
use Rattle.std.specs.Prelude.{⊤}
use Rattle.acas_spec.specs.Model.{ModelData}
use Rattle.acas_spec.specs.Table.{Policy}
use Rattle.acas_grid.specs.Grid.{state_number, vertex_number}
use Rattle.acas_base.specs.Advices.{AdvicesData, AreAdvicesOf, advice_at}
use Rattle.acas_policies.specs.Policies.{always_clear}
use Rattle.acas_risk.specs.declared.plan.Plan.{Plan}
use Rattle.acas_risk.specs.declared.plan.Plan.TheVariants.{AlwaysClear, Tabled}

-- the policy of a table's advices
abbrev pub advised : ModelData → AdvicesData → Policy
advised m advices n p x = advice_at advices n (state_number m.grid p (vertex_number m.grid x))

-- the policy of a plan
abbrev pub policy_of : ModelData → Plan → Policy
policy_of m (Tabled advices) = advised m advices.now
policy_of m AlwaysClear = always_clear

-- the advices of a plan are those of a table of the model
abbrev pub FitsModel : ModelData → Plan → Type 0
FitsModel m (Tabled advices) = AreAdvicesOf m advices.now
FitsModel m AlwaysClear = ⊤
