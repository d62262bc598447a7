use Rattle.acas_trajectories.proofs.TrajectorySums.{over_trajectories-add, over_trajectories-none, over_trajectories-one, over_trajectories-ones}
use Rattle.acas_trajectories.proofs.trajectories.trajectories_stand_once_in_a_sum.Goals as goal

pub returns-clause-once : goal.returns-clause-once
returns-clause-once c = over_trajectories-one

pub returns-clause-no_other : goal.returns-clause-no_other
returns-clause-no_other c = over_trajectories-none

pub returns-clause-added : goal.returns-clause-added
returns-clause-added c = over_trajectories-add

pub returns-clause-count : goal.returns-clause-count
returns-clause-count c = over_trajectories-ones
