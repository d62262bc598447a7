use Rattle.acas_policies.proofs.ChanceLaws.{chance_bounds}
use Rattle.acas_policies.proofs.policies.policy_values_bound_chances.Goals as goal

pub returns : goal.returns
returns c = chance_bounds
