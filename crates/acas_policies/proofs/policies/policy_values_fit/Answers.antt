use Rattle.std.proofs.Common.{inl, inr, refl}
use Rattle.acas_frac.specs.Rounding.{down, up}
use Rattle.acas_policies.proofs.PolicySizes.{policy_size}
use Rattle.acas_policies.proofs.policies.policy_values_fit.Goals as goal

pub returns-clause-upper : goal.returns-clause-upper
returns-clause-upper c m policy n p x v says at = policy_size up (inr refl) m policy n p x v says at

pub returns-clause-lower : goal.returns-clause-lower
returns-clause-lower c m policy n p x v says at = policy_size down (inl refl) m policy n p x v says at
