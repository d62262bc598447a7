-- The sum over trajectories of weight times cost, by a recursion over the seconds.
use Rattle.std.proofs.Common.{◌≡◌, ℕ, zero, suc, ◌*◌, ◌^◌, ℤ, pos, ◌+ℤ◌, ◌*ℤ◌, List, [], ◌∷◌, length, refl, ap, sym, ◌∙◌, arith}
use Rattle.std.proofs.lemmas.Int.{ints}
use Rattle.std.proofs.Math.Nat.{pow-suc}
use Rattle.acas_spec.specs.Limits.{IsModel}
use Rattle.acas_spec.specs.Model.{ModelData}
use Rattle.acas_spec.specs.Table.{Policy}
use Rattle.acas_spec.specs.declared.place.Vertex.{Vertex}
use Rattle.acas_frac.proofs.SignedProducts.{mul-add_ℤ, mul_assoc_ℤ, mul_comm_ℤ}
use Rattle.acas_process.specs.Step.{over_vertices}
use Rattle.acas_process.specs.Cost.{cost_of, expected_cost, terminal_cost, transition_total, transition_weight}
use Rattle.acas_process.proofs.MeanLaws.{transitions_sum}
use Rattle.acas_process.proofs.VertexLaws.{over_vertices-same, over_vertices-mul, over_vertices-add}
use Rattle.acas_trajectories.specs.Memory.{GridState, MemoryPolicy, without_memory, grid_state}
use Rattle.acas_trajectories.specs.Trajectories.{Trajectory, cost_over_trajectories, end_of, over_trajectories, sum_along, transitions_from}
use Rattle.acas_trajectories.proofs.TrajectorySums.{over_trajectories-same, over_trajectories-mul, over_trajectories-add}
use Rattle.acas_trajectories.proofs.WeightLaws.{weight_from, weight_from-first, weights_sum_from}

-- the cost of a trajectory that goes on from a state
abbrev pub cost_from : ModelData → MemoryPolicy → List GridState → GridState → Trajectory → ℤ
cost_from m policy earlier s path = sum_along (λ t. cost_of m t.from.present t.advisory) (transitions_from policy earlier s path) +ℤ terminal_cost m (end_of s.vertex path)

-- the expected cost of a policy with memory, second by second, times a power of the total
abbrev pub remembered_cost : ModelData → MemoryPolicy → List GridState → ℕ → GridState → ℤ
remembered_cost m policy earlier zero s = terminal_cost m s.vertex
remembered_cost m policy earlier (suc n) s =
    let a : ℕ = policy earlier (suc n) s.present s.vertex in
    pos (transition_total m ^ suc n) *ℤ cost_of m s.present a +ℤ over_vertices m.grid (λ y. transition_weight m s.vertex a y *ℤ remembered_cost m policy (s ∷ earlier) n (grid_state a y))

-- ---- the sum over trajectories is that

add_assoc_ℤ : (a b c : ℤ) → (a +ℤ b) +ℤ c ≡ a +ℤ (b +ℤ c)
add_assoc_ℤ a b c = omega (arith, ints)

cost_from-first : (m : ModelData) (policy : MemoryPolicy) (earlier : List GridState) (s : GridState) (n : ℕ) (y : Vertex) (rest : Trajectory) → length rest ≡ n →
    let a : ℕ = policy earlier (suc n) s.present s.vertex in
    cost_from m policy earlier s (y ∷ rest) ≡ cost_of m s.present a +ℤ cost_from m policy (s ∷ earlier) (grid_state a y) rest
cost_from-first m policy earlier s n y rest l =
    let a : ℕ = policy earlier (suc (length rest)) s.present s.vertex in
    let later : ℤ = sum_along (λ t. cost_of m t.from.present t.advisory) (transitions_from policy (s ∷ earlier) (grid_state a y) rest) in
    add_assoc_ℤ (cost_of m s.present a) later (terminal_cost m (end_of y rest))
    ∙ ap (λ (k : ℕ). let b : ℕ = policy earlier (suc k) s.present s.vertex in cost_of m s.present b +ℤ cost_from m policy (s ∷ earlier) (grid_state b y) rest) l

-- w and c are the weight and the cost of the first second, v and d those of the rest
split_term : (w v c d : ℤ) → (w *ℤ v) *ℤ (c +ℤ d) ≡ w *ℤ (c *ℤ v +ℤ v *ℤ d)
split_term w v c d = mul_assoc_ℤ w v (c +ℤ d) ∙ ap (λ z. w *ℤ z) (mul-add_ℤ v c d ∙ ap (λ z. z +ℤ v *ℤ d) (mul_comm_ℤ v c))

product_same : (w v c d : ℤ) → w ≡ v → c ≡ d → w *ℤ c ≡ v *ℤ d
product_same w v c d e h = ap (λ z. z *ℤ c) e ∙ ap (λ z. v *ℤ z) h

-- the total of a second's cost, over the power before
whole_cost : (c : ℤ) (t n : ℕ) → (c *ℤ pos (t ^ n)) *ℤ pos t ≡ pos (t ^ suc n) *ℤ c
whole_cost c t n = mul_assoc_ℤ c (pos (t ^ n)) (pos t) ∙ mul_comm_ℤ c (pos (t ^ n * t)) ∙ ap (λ (k : ℕ). pos k *ℤ c) (sym (pow-suc t n))

-- what goes through one vertex after the first second, where `later` is the sum over what follows
through : (m : ModelData) (policy : MemoryPolicy) → IsModel m → (n : ℕ) (earlier : List GridState) (s : GridState) (y : Vertex) (later : ℤ) →
    let a : ℕ = policy earlier (suc n) s.present s.vertex in
    over_trajectories m.grid n (λ rest. weight_from m policy (s ∷ earlier) (grid_state a y) rest *ℤ cost_from m policy (s ∷ earlier) (grid_state a y) rest) ≡ later →
    over_trajectories m.grid n (λ rest. weight_from m policy earlier s (y ∷ rest) *ℤ cost_from m policy earlier s (y ∷ rest))
    ≡ (cost_of m s.present a *ℤ pos (transition_total m ^ n)) *ℤ transition_weight m s.vertex a y +ℤ transition_weight m s.vertex a y *ℤ later
through m policy v n earlier s y later follows =
    let a : ℕ = policy earlier (suc n) s.present s.vertex in
    let w : ℤ = transition_weight m s.vertex a y in
    let c : ℤ = cost_of m s.present a in
    let weight : Trajectory → ℤ = weight_from m policy (s ∷ earlier) (grid_state a y) in
    let cost : Trajectory → ℤ = cost_from m policy (s ∷ earlier) (grid_state a y) in
    over_trajectories-same m.grid n _ (λ rest. w *ℤ (c *ℤ weight rest +ℤ weight rest *ℤ cost rest)) (λ rest l _.
    product_same _ (w *ℤ weight rest) _ (c +ℤ cost rest) (weight_from-first m policy earlier s n y rest l) (cost_from-first m policy earlier s n y rest l) ∙ split_term w (weight rest) c (cost rest))
    ∙ over_trajectories-mul m.grid n w (λ rest. c *ℤ weight rest +ℤ weight rest *ℤ cost rest)
    ∙ ap (λ z. w *ℤ z) (over_trajectories-add m.grid n (λ rest. c *ℤ weight rest) (λ rest. weight rest *ℤ cost rest)
    ∙ ap (λ z. z +ℤ over_trajectories m.grid n (λ rest. weight rest *ℤ cost rest)) (over_trajectories-mul m.grid n c weight ∙ ap (λ z. c *ℤ z) (weights_sum_from m policy v n (s ∷ earlier) (grid_state a y)))
    ∙ ap (λ z. c *ℤ pos (transition_total m ^ n) +ℤ z) follows)
    ∙ mul-add_ℤ w (c *ℤ pos (transition_total m ^ n)) later
    ∙ ap (λ z. z +ℤ w *ℤ later) (mul_comm_ℤ w (c *ℤ pos (transition_total m ^ n)))

pub sum_is_remembered : (m : ModelData) (policy : MemoryPolicy) → IsModel m → (n : ℕ) (earlier : List GridState) (s : GridState) →
    over_trajectories m.grid n (λ path. weight_from m policy earlier s path *ℤ cost_from m policy earlier s path) ≡ remembered_cost m policy earlier n s
sum_is_remembered m policy v zero earlier s = omega (arith, ints)
sum_is_remembered m policy v (suc n) earlier s =
    let a : ℕ = policy earlier (suc n) s.present s.vertex in
    let weight : Vertex → ℤ = transition_weight m s.vertex a in
    let later : Vertex → ℤ = λ y. remembered_cost m policy (s ∷ earlier) n (grid_state a y) in
    let scaled : ℤ = cost_of m s.present a *ℤ pos (transition_total m ^ n) in
    over_vertices-same m.grid _ (λ y. scaled *ℤ weight y +ℤ weight y *ℤ later y) (λ y _. through m policy v n earlier s y (later y) (sum_is_remembered m policy v n (s ∷ earlier) (grid_state a y)))
    ∙ over_vertices-add m.grid (λ y. scaled *ℤ weight y) (λ y. weight y *ℤ later y)
    ∙ ap (λ z. z +ℤ over_vertices m.grid (λ y. weight y *ℤ later y)) (over_vertices-mul m.grid scaled weight ∙ ap (λ z. scaled *ℤ z) (transitions_sum m s.vertex a v) ∙ whole_cost (cost_of m s.present a) (transition_total m) n)

-- ---- without memory it is the expected cost

pub remembered-without : (m : ModelData) (policy : Policy) (n : ℕ) (earlier : List GridState) (p : ℕ) (x : Vertex) → remembered_cost m (without_memory policy) earlier n (grid_state p x) ≡ expected_cost m policy n p x
remembered-without m policy zero earlier p x = refl
remembered-without m policy (suc n) earlier p x =
    let a : ℕ = policy (suc n) p x in
    ap (λ z. pos (transition_total m ^ suc n) *ℤ cost_of m p a +ℤ z)
    (over_vertices-same m.grid _ _ (λ y _. ap (λ z. transition_weight m x a y *ℤ z) (remembered-without m policy n (grid_state p x ∷ earlier) a y)))

-- ---- the same of trajectories from the start

pub costs_without_memory : (m : ModelData) (policy : Policy) (n p : ℕ) (x : Vertex) → IsModel m → cost_over_trajectories m (without_memory policy) n p x ≡ expected_cost m policy n p x
costs_without_memory m policy n p x v = sum_is_remembered m (without_memory policy) v n [] (grid_state p x) ∙ remembered-without m policy n [] p x
