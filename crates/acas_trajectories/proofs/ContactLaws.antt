-- The chance of contact, by trajectories: its sum over them in the model that counts contact, where a trajectory costs 1 or nothing.
use Rattle.std.proofs.Common.{◌≡◌, ℕ, ℤ, pos, ◌+ℤ◌, ◌*ℤ◌, List, [], ◌∷◌, Bool, true, false, cond, refl, sym, ◌∙◌, arith}
use Rattle.std.proofs.lemmas.Int.{ints}
use Rattle.acas_spec.specs.Limits.{IsModel}
use Rattle.acas_spec.specs.Model.{ModelData}
use Rattle.acas_spec.specs.Table.{Policy}
use Rattle.acas_spec.specs.declared.place.Vertex.{Vertex}
use Rattle.acas_process.specs.Cost.{cost_of}
use Rattle.acas_policies.specs.Policies.{contact_chance, counting_contact, in_contact}
use Rattle.acas_policies.proofs.ChanceLaws.{chance_is_cost, counting_is_model, seconds_are_free}
use Rattle.acas_trajectories.specs.Memory.{without_memory}
use Rattle.acas_trajectories.specs.Trajectories.{Transition, end_of, over_trajectories, sum_along, trajectory_weight, transitions}
use Rattle.acas_trajectories.proofs.RecursionLaws.{costs_without_memory}
use Rattle.acas_trajectories.proofs.TrajectorySums.{over_trajectories-same}

free_along : (m : ModelData) (seconds : List Transition) → sum_along (λ t. cost_of (counting_contact m) t.from.present t.advisory) seconds ≡ pos 0
free_along m [] = refl
free_along m (t ∷ rest) = omega (arith, ints, seconds_are_free m t.from.present t.advisory, free_along m rest)

-- a weight, times a cost that is 1 or nothing
counted_weight : (w cost : ℤ) (b : Bool) → cost ≡ pos 0 → w *ℤ (cost +ℤ cond b (pos 1) (pos 0)) ≡ cond b w (pos 0)
counted_weight w cost true e = rw e (omega (arith, ints))
counted_weight w cost false e = rw e (omega (arith, ints))

pub chance_over_trajectories : (m : ModelData) (policy : Policy) (n p : ℕ) (x : Vertex) → IsModel m →
    contact_chance m policy n p x ≡ over_trajectories m.grid n (λ path. cond (in_contact m (end_of x path)) (trajectory_weight m (without_memory policy) p x path) (pos 0))
chance_over_trajectories m policy n p x v =
    chance_is_cost m policy n p x
    ∙ sym (costs_without_memory (counting_contact m) policy n p x (counting_is_model m v))
    ∙ over_trajectories-same m.grid n _ _ (λ path _ _.
    counted_weight (trajectory_weight m (without_memory policy) p x path) _ (in_contact m (end_of x path)) (free_along m (transitions (without_memory policy) p x path)))
