use Rattle.std.proofs.Common.{[]}
use Rattle.acas_trajectories.specs.Memory.{grid_state}
use Rattle.acas_trajectories.proofs.WeightLaws.{weight_from-pos, weights_sum_from}
use Rattle.acas_trajectories.proofs.trajectories.weights_of_trajectories_sum_to_a_power.Goals as goal

pub returns-clause-sum : goal.returns-clause-sum
returns-clause-sum c m policy n p x v = weights_sum_from m policy v n [] (grid_state p x)

pub returns-clause-not_negative : goal.returns-clause-not_negative
returns-clause-not_negative c m policy p x path = weight_from-pos m policy [] (grid_state p x) path
