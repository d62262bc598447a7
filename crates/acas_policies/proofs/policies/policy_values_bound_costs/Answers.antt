use Rattle.acas_policies.proofs.BoundLaws.{says_advisories}
use Rattle.acas_policies.proofs.PolicyLaws.{policy_bounds}
use Rattle.acas_policies.proofs.policies.policy_values_bound_costs.Goals as goal

pub returns-clause-bounds : goal.returns-clause-bounds
returns-clause-bounds c = policy_bounds

pub returns-clause-policies : goal.returns-clause-policies
returns-clause-policies c = says_advisories
