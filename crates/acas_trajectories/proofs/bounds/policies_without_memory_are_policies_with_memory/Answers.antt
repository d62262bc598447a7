use Rattle.acas_trajectories.proofs.RecursionLaws.{costs_without_memory}
use Rattle.acas_trajectories.proofs.bounds.policies_without_memory_are_policies_with_memory.Goals as goal

pub returns-clause-with_memory : goal.returns-clause-with_memory
returns-clause-with_memory c m policy allowed = record {
  allowed = λ earlier. record { allowed = λ n p x some at. allowed earlier n p x some at.seconds at.present at.vertex.i at.vertex.j at.vertex.k };
}

pub returns-clause-without_memory : goal.returns-clause-without_memory
returns-clause-without_memory c m policy w = record { allowed = λ earlier. w }

pub returns-clause-same_cost : goal.returns-clause-same_cost
returns-clause-same_cost c = costs_without_memory
