use Rattle.acas_policies.specs.Allowed.{any_choice, only}
use Rattle.acas_process.specs.Compiled.{compiled}
use Rattle.acas_policies.proofs.BoundLaws.{keeps_to_advice, keeps_to_choices, lower_bound_at, sound_lower, sound_policy, sound_upper, upper_bound_at}
use Rattle.acas_policies.proofs.CompiledBounds.{compiled_is_sound}
use Rattle.acas_policies.proofs.PolicyLaws.{policy-le-table, table-le-policy}
use Rattle.acas_policies.proofs.policies.policy_values_and_tables_never_contradict.Goals as goal

pub returns-clause-costs_below : goal.returns-clause-costs_below
returns-clause-costs_below c m t n p x v s at = lower_bound_at m (any_choice m) t.lower t.advice n p x v (sound_lower m t s) (keeps_to_choices m t.advice v (sound_policy m t s)) at

pub returns-clause-costs_above : goal.returns-clause-costs_above
returns-clause-costs_above c m t n p x v s at = upper_bound_at m (only t.advice) t.upper t.advice n p x v (sound_upper m t s) (keeps_to_advice m t v s) at

pub returns-clause-upper : goal.returns-clause-upper
returns-clause-upper c = table-le-policy

pub returns-clause-lower : goal.returns-clause-lower
returns-clause-lower c = policy-le-table

pub returns-clause-compiled : goal.returns-clause-compiled
returns-clause-compiled c m n p x v at =
    let s = compiled_is_sound m v in
    (table-le-policy m (compiled m) n p x v s at, policy-le-table m (compiled m) n p x v s at)
