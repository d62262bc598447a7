use Rattle.acas_policies.proofs.ChanceLaws.{same_chance}
use Rattle.acas_policies.proofs.PolicyLaws.{same_cost, same_values}
use Rattle.acas_policies.proofs.policies.policies_that_say_the_same_are_one.Goals as goal

pub returns-clause-cost : goal.returns-clause-cost
returns-clause-cost c = same_cost

pub returns-clause-chance : goal.returns-clause-chance
returns-clause-chance c = same_chance

pub returns-clause-values : goal.returns-clause-values
returns-clause-values c = same_values
