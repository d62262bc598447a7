-- The weights of trajectories: they are at least 0, and sum to a power of the total.
use Rattle.std.proofs.Common.{◌≡◌, ℕ, zero, suc, ◌^◌, ℤ, pos, ◌*ℤ◌, ◌≤ℤ◌, unsigned_abs, List, [], ◌∷◌, length, ap, sym, subst, ◌∙◌, arith}
use Rattle.std.proofs.lemmas.Int.{ints}
use Rattle.std.proofs.Math.Nat.{pow-suc, pow-zero}
use Rattle.acas_spec.specs.Limits.{IsModel}
use Rattle.acas_spec.specs.Model.{ModelData}
use Rattle.acas_spec.specs.declared.place.Vertex.{Vertex}
use Rattle.acas_frac.proofs.SignedProducts.{mul_comm_ℤ, mul-le_ℤ}
use Rattle.acas_process.specs.Cost.{transition_total, transition_weight}
use Rattle.acas_process.proofs.MeanLaws.{transition_weight-pos, transitions_sum}
use Rattle.acas_process.proofs.VertexLaws.{over_vertices-same, over_vertices-mul}
use Rattle.acas_trajectories.specs.Memory.{GridState, MemoryPolicy, grid_state}
use Rattle.acas_trajectories.specs.Trajectories.{Trajectory, Transition, over_trajectories, product_along, transitions_from}
use Rattle.acas_trajectories.proofs.TrajectorySums.{over_trajectories-same, over_trajectories-mul}

-- the weight of a trajectory that goes on from a state
abbrev pub weight_from : ModelData → MemoryPolicy → List GridState → GridState → Trajectory → ℤ
weight_from m policy earlier s path = product_along (λ t. transition_weight m t.from.vertex t.advisory t.to) (transitions_from policy earlier s path)

pub weight_from-first : (m : ModelData) (policy : MemoryPolicy) (earlier : List GridState) (s : GridState) (n : ℕ) (y : Vertex) (rest : Trajectory) → length rest ≡ n →
    let a : ℕ = policy earlier (suc n) s.present s.vertex in
    weight_from m policy earlier s (y ∷ rest) ≡ transition_weight m s.vertex a y *ℤ weight_from m policy (s ∷ earlier) (grid_state a y) rest
weight_from-first m policy earlier s n y rest l =
    ap (λ (k : ℕ). let a : ℕ = policy earlier (suc k) s.present s.vertex in transition_weight m s.vertex a y *ℤ weight_from m policy (s ∷ earlier) (grid_state a y) rest) l

pub weights_sum_from : (m : ModelData) (policy : MemoryPolicy) → IsModel m → (n : ℕ) (earlier : List GridState) (s : GridState) → over_trajectories m.grid n (weight_from m policy earlier s) ≡ pos (transition_total m ^ n)
weights_sum_from m policy v zero earlier s = ap pos (sym (pow-zero (transition_total m)))
weights_sum_from m policy v (suc n) earlier s =
    let a : ℕ = policy earlier (suc n) s.present s.vertex in
    let below : ℕ = transition_total m ^ n in
    over_vertices-same m.grid _ _ (λ y _.
    over_trajectories-same m.grid n _ _ (λ rest l _. weight_from-first m policy earlier s n y rest l)
    ∙ over_trajectories-mul m.grid n (transition_weight m s.vertex a y) (weight_from m policy (s ∷ earlier) (grid_state a y))
    ∙ ap (λ z. transition_weight m s.vertex a y *ℤ z) (weights_sum_from m policy v n (s ∷ earlier) (grid_state a y))
    ∙ mul_comm_ℤ (transition_weight m s.vertex a y) (pos below))
    ∙ over_vertices-mul m.grid (pos below) (transition_weight m s.vertex a)
    ∙ ap (λ z. pos below *ℤ z) (transitions_sum m s.vertex a v)
    ∙ ap pos (sym (pow-suc (transition_total m) n))

-- a product with a number that is at least 0 keeps the order
pub mul-le_by_pos : (w a b : ℤ) → pos 0 ≤ℤ w → a ≤ℤ b → (w *ℤ a) ≤ℤ (w *ℤ b)
mul-le_by_pos w a b h k =
    let e : pos (unsigned_abs w) ≡ w = omega (arith, ints) in
    subst (λ z. (z *ℤ a) ≤ℤ (z *ℤ b)) e (mul-le_ℤ (unsigned_abs w) a b k)

pub product_along-pos : {A : Type 0} (f : A → ℤ) → ((a : A) → pos 0 ≤ℤ f a) → (items : List A) → pos 0 ≤ℤ product_along f items
product_along-pos f h [] = omega (arith, ints)
product_along-pos f h (a ∷ rest) = omega (arith, ints, mul-le_by_pos (f a) (pos 0) (product_along f rest) (h a) (product_along-pos f h rest))

pub weight_from-pos : (m : ModelData) (policy : MemoryPolicy) (earlier : List GridState) (s : GridState) (path : Trajectory) → pos 0 ≤ℤ weight_from m policy earlier s path
weight_from-pos m policy earlier s path =
    product_along-pos (λ (t : Transition). transition_weight m t.from.vertex t.advisory t.to) (λ t. transition_weight-pos m t.from.vertex t.to t.advisory) (transitions_from policy earlier s path)
