use Rattle.acas_policies.proofs.BoundLaws.{keeps_to_choices, sound_lower, sound_upper}
use Rattle.acas_policies.proofs.PolicyLaws.{policy_lower, policy_upper}
use Rattle.acas_policies.proofs.policies.tables_and_policies_have_such_values.Goals as goal

pub returns-clause-upper : goal.returns-clause-upper
returns-clause-upper c = sound_upper

pub returns-clause-lower : goal.returns-clause-lower
returns-clause-lower c = sound_lower

pub returns-clause-policy_upper : goal.returns-clause-policy_upper
returns-clause-policy_upper c = policy_upper

pub returns-clause-policy_lower : goal.returns-clause-policy_lower
returns-clause-policy_lower c = policy_lower

pub returns-clause-chooses : goal.returns-clause-chooses
returns-clause-chooses c = keeps_to_choices
