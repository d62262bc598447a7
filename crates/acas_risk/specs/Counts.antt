-- What is counted along a flight: contact at its end, or all that it costs.
use Rattle.std.specs.Prelude.{◌≡◌, ℕ, ◌<◌, ℤ, pos, List, [], get_or}
use Rattle.acas_spec.specs.Model.{ModelData}
use Rattle.acas_process.specs.Values.{millionths}
use Rattle.acas_process.specs.Cost.{cost_of}
use Rattle.acas_policies.specs.Policies.{counting_contact}
use Rattle.acas_risk.specs.declared.counted.Counted.{Counted}
use Rattle.acas_risk.specs.declared.counted.Counted.TheVariants.{Contacts, Costs}

-- the model in which what is counted is what a policy costs
abbrev pub model_counting : Counted → ModelData → ModelData
model_counting Contacts m = counting_contact m
model_counting Costs m = m

-- what a second costs that is counted, in millionths, by the present advisory and the one that is given
abbrev pub second_cost : List (List ℤ) → ℕ → ℕ → ℤ
second_cost costs p a = get_or (get_or costs p []) a (pos 0)

-- the costs of seconds are those of a model
pub record AreSecondCosts (m : ModelData) (costs : List (List ℤ)) : Type 0 where
  pub each : (p a : ℕ) → p < m.grid.advisories → a < m.grid.advisories → second_cost costs p a ≡ millionths (cost_of m p a)
