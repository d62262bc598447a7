use Rattle.acas_policies.proofs.ChanceLaws.{chance-pos, chance_at_most, chance_is_cost, counting_is_model}
use Rattle.acas_policies.proofs.policies.chances_are_expected_costs.Goals as goal

pub returns-clause-cost : goal.returns-clause-cost
returns-clause-cost c = chance_is_cost

pub returns-clause-model : goal.returns-clause-model
returns-clause-model c = counting_is_model

pub returns-clause-least : goal.returns-clause-least
returns-clause-least c = chance-pos

pub returns-clause-greatest : goal.returns-clause-greatest
returns-clause-greatest c = chance_at_most
