use Rattle.acas_trajectories.proofs.BestLaws.{best_costs_least, best_is_policy, best_policy}
use Rattle.acas_trajectories.proofs.bounds.one_policy_without_memory_is_best.Goals as goal

pub returns : goal.returns
returns c m v = (best_policy m, best_is_policy m v, best_costs_least m v)
