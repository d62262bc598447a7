use Rattle.acas_process.specs.Compiled.{compiled}
use Rattle.acas_policies.proofs.BoundLaws.{two_sided_bounds}
use Rattle.acas_policies.proofs.CompiledBounds.{compiled_is_sound}
use Rattle.acas_trajectories.proofs.BestLaws.{lower_bound_over_trajectories}
use Rattle.acas_trajectories.proofs.bounds.no_policy_with_memory_costs_less.Goals as goal

pub returns-clause-bounded : goal.returns-clause-bounded
returns-clause-bounded c = lower_bound_over_trajectories

pub returns-clause-sound : goal.returns-clause-sound
returns-clause-sound c m t policy n p x v s w at = lower_bound_over_trajectories m t policy n p x v (two_sided_bounds m t v s) w at

pub returns-clause-compiled : goal.returns-clause-compiled
returns-clause-compiled c m policy n p x v w at =
    lower_bound_over_trajectories m (compiled m) policy n p x v (two_sided_bounds m (compiled m) v (compiled_is_sound m v)) w at
