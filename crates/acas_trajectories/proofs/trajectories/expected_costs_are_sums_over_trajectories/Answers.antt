use Rattle.std.proofs.Common.{sym}
use Rattle.acas_trajectories.proofs.RecursionLaws.{costs_without_memory}
use Rattle.acas_trajectories.proofs.trajectories.expected_costs_are_sums_over_trajectories.Goals as goal

pub returns : goal.returns
returns c m policy n p x v = sym (costs_without_memory m policy n p x v)
