use Rattle.acas_policies.proofs.BoundLaws.{lower_bound_at, upper_bound_at}
use Rattle.acas_policies.proofs.policies.values_bound_what_is_allowed.Goals as goal

pub returns-clause-above : goal.returns-clause-above
returns-clause-above c = upper_bound_at

pub returns-clause-below : goal.returns-clause-below
returns-clause-below c = lower_bound_at
