-- Trajectories, their weights and costs under a policy with memory, and the sum over all of them.
use Rattle.std.specs.Prelude.{ℕ, zero, suc, ℤ, pos, ◌+ℤ◌, ◌*ℤ◌, List, [], ◌∷◌, length}
use Rattle.acas_spec.specs.Model.{GridData, ModelData}
use Rattle.acas_spec.specs.declared.place.Vertex.{Vertex}
use Rattle.acas_process.specs.Step.{over_vertices}
use Rattle.acas_process.specs.Cost.{cost_of, terminal_cost, transition_weight}
use Rattle.acas_trajectories.specs.Memory.{GridState, MemoryPolicy, grid_state}

-- a trajectory has a vertex for each of its seconds, at which that second ends
abbrev pub Trajectory : Type 0
Trajectory = List Vertex

-- the sum of a function over all trajectories of n seconds
abbrev pub over_trajectories : GridData → ℕ → (Trajectory → ℤ) → ℤ
over_trajectories g zero f = f []
over_trajectories g (suc n) f = over_vertices g (λ y. over_trajectories g n (λ rest. f (y ∷ rest)))

-- one second of a trajectory: from a state, under the advisory that was given there, to a vertex
pub record Transition : Type 0 where
  pub from : GridState
  pub advisory : ℕ
  pub to : Vertex

-- the seconds of a trajectory that goes on from the state s, where the policy remembers the states before
abbrev pub transitions_from : MemoryPolicy → List GridState → GridState → Trajectory → List Transition
transitions_from policy earlier s [] = []
transitions_from policy earlier s (y ∷ rest) =
    let a : ℕ = policy earlier (length (y ∷ rest)) s.present s.vertex in
    record { from = s; advisory = a; to = y }
    ∷ transitions_from policy (s ∷ earlier) (grid_state a y) rest

-- the seconds of a trajectory that starts at the vertex x where p is present: nothing was before
abbrev pub transitions : MemoryPolicy → ℕ → Vertex → Trajectory → List Transition
transitions policy p x path = transitions_from policy [] (grid_state p x) path

-- the product of a function over a list
abbrev pub product_along : {A : Type 0} → (A → ℤ) → List A → ℤ
product_along f [] = pos 1
product_along f (a ∷ rest) = f a *ℤ product_along f rest

-- the sum of a function over a list
abbrev pub sum_along : {A : Type 0} → (A → ℤ) → List A → ℤ
sum_along f [] = pos 0
sum_along f (a ∷ rest) = f a +ℤ sum_along f rest

-- the vertex where a trajectory from the vertex x ends
abbrev pub end_of : Vertex → Trajectory → Vertex
end_of x [] = x
end_of x (y ∷ rest) = end_of y rest

-- the weight of a trajectory: the product of the transition weights of its seconds
abbrev pub trajectory_weight : ModelData → MemoryPolicy → ℕ → Vertex → Trajectory → ℤ
trajectory_weight m policy p x path =
    product_along (λ t. transition_weight m t.from.vertex t.advisory t.to) (transitions policy p x path)

-- the cost of a trajectory, in units: what its seconds cost, and the cost at its end
abbrev pub trajectory_cost : ModelData → MemoryPolicy → ℕ → Vertex → Trajectory → ℤ
trajectory_cost m policy p x path =
    sum_along (λ t. cost_of m t.from.present t.advisory) (transitions policy p x path) +ℤ terminal_cost m (end_of x path)

-- the expected cost of a policy with memory with n seconds to go from the vertex x where p is present, in units, times the n-th power
-- of the total: the sum over all trajectories of weight times cost
abbrev pub cost_over_trajectories : ModelData → MemoryPolicy → ℕ → ℕ → Vertex → ℤ
cost_over_trajectories m policy n p x =
    over_trajectories m.grid n (λ path. trajectory_weight m policy p x path *ℤ trajectory_cost m policy p x path)
