-- A policy without memory that costs no more than any policy with memory, from every entry.
use Rattle.std.proofs.Common.{◌≡◌, ℕ, zero, suc, ◌^◌, ◌<◌, ℤ, pos, ◌+ℤ◌, ◌*ℤ◌, ◌≤ℤ◌, List, [], ◌∷◌, refl, ap, sym, subst, ◌∙◌, arith}
use Rattle.std.proofs.lemmas.Int.{ints}
use Rattle.acas_spec.specs.Limits.{IsModel}
use Rattle.acas_spec.specs.Model.{ModelData, choices_at}
use Rattle.acas_spec.specs.Table.{Policy, Table, Values}
use Rattle.acas_spec.specs.declared.place.Vertex.{Vertex}
use Rattle.acas_grid.specs.Grid.{IsVertex}
use Rattle.acas_frac.proofs.SignedProducts.{le-trans_ℤ, mul-le_ℤ}
use Rattle.acas_process.specs.Step.{over_vertices}
use Rattle.acas_policies.specs.Bounds.{HasTwoSidedBounds}
use Rattle.acas_process.specs.Compiled.{first_least, least}
use Rattle.acas_process.specs.Cost.{IsEntry, IsPolicy, MayChoose, cost_of, expected_cost, terminal_cost, transition_total, transition_weight}
use Rattle.acas_process.proofs.Least.{IsLeastOf, first_least_is, least-le}
use Rattle.acas_process.proofs.MeanLaws.{transition_weight-pos}
use Rattle.acas_process.proofs.ModelLaws.{is_chosen}
use Rattle.acas_process.proofs.VertexLaws.{over_vertices-le, over_vertices-same}
use Rattle.acas_trajectories.specs.Memory.{GridState, IsMemoryPolicy, MemoryPolicy, grid_state}
use Rattle.acas_trajectories.specs.Trajectories.{cost_over_trajectories}
use Rattle.acas_trajectories.proofs.RecursionLaws.{remembered_cost, sum_is_remembered}
use Rattle.acas_trajectories.proofs.WeightLaws.{mul-le_by_pos}

-- what choosing the advisory a costs, where it costs so much to go on from each vertex under each advisory
abbrev pub choice_cost : ModelData → ℕ → Values → ℕ → Vertex → ℕ → ℤ
choice_cost m n later p x a = pos (transition_total m ^ suc n) *ℤ cost_of m p a +ℤ over_vertices m.grid (λ y. transition_weight m x a y *ℤ later a y)

-- the least expected cost, choice by choice
abbrev pub least_cost : ModelData → ℕ → Values
least_cost m zero p x = terminal_cost m x
least_cost m (suc n) p x = least (choice_cost m n (least_cost m n) p x) (choices_at m p)

-- the policy that has it
abbrev pub best_policy : ModelData → Policy
best_policy m zero p x = 0
best_policy m (suc n) p x = first_least (choice_cost m n (least_cost m n) p x) (choices_at m p)

best_choice : (m : ModelData) → IsModel m → (n p : ℕ) (x : Vertex) → p < m.grid.advisories → IsLeastOf (choice_cost m n (least_cost m n) p x) (choices_at m p) (best_policy m (suc n) p x)
best_choice m v n p x known = first_least_is (choice_cost m n (least_cost m n) p x) (choices_at m p) (v.choices p known).some

best_allowed : (m : ModelData) → IsModel m → (n p : ℕ) (x : Vertex) → 0 < n → IsEntry m n p x → MayChoose m p (best_policy m n p x)
best_allowed m v zero p x h at = absurd (omega (arith, h))
best_allowed m v (suc n) p x h at = (best_choice m v n p x at.present).listed

pub best_is_policy : (m : ModelData) → IsModel m → IsPolicy m (best_policy m)
best_is_policy m v = record { allowed = best_allowed m v }

best_cost : (m : ModelData) → IsModel m → (n p : ℕ) (x : Vertex) → p < m.grid.advisories → expected_cost m (best_policy m) n p x ≡ least_cost m n p x
best_cost m v zero p x known = refl
best_cost m v (suc n) p x known =
    let a : ℕ = best_policy m (suc n) p x in
    let best = best_choice m v n p x known in
    ap (λ z. pos (transition_total m ^ suc n) *ℤ cost_of m p a +ℤ z)
    (over_vertices-same m.grid _ _ (λ y _. ap (λ z. transition_weight m x a y *ℤ z) (best_cost m v n a y (is_chosen m p a v known best.listed).inside)))
    ∙ best.least

-- a second costs no more, where no vertex costs more after it
choice_cost-le : (m : ModelData) (n : ℕ) (later : Values) (p : ℕ) (x : Vertex) (a : ℕ) (more : Vertex → ℤ) → ((y : Vertex) → IsVertex m.grid y → later a y ≤ℤ more y) →
    choice_cost m n later p x a ≤ℤ (pos (transition_total m ^ suc n) *ℤ cost_of m p a +ℤ over_vertices m.grid (λ y. transition_weight m x a y *ℤ more y))
choice_cost-le m n later p x a more h =
    let sums = over_vertices-le m.grid (λ y. transition_weight m x a y *ℤ later a y) (λ y. transition_weight m x a y *ℤ more y)
    (λ y k. mul-le_by_pos (transition_weight m x a y) (later a y) (more y) (transition_weight-pos m x y a) (h y k)) in
    omega (arith, ints, sums)

least_cost_remembered : (m : ModelData) (policy : MemoryPolicy) → IsModel m → IsMemoryPolicy m policy → (n : ℕ) (earlier : List GridState) (p : ℕ) (x : Vertex) → IsEntry m n p x →
    least_cost m n p x ≤ℤ remembered_cost m policy earlier n (grid_state p x)
least_cost_remembered m policy v w zero earlier p x at = omega (arith, ints)
least_cost_remembered m policy v w (suc n) earlier p x at =
    let a : ℕ = policy earlier (suc n) p x in
    let allowed : MayChoose m p a = (w.allowed earlier).allowed (suc n) p x (omega arith) at in
    let states : List GridState = grid_state p x ∷ earlier in
    let known = (is_chosen m p a v at.present allowed).inside in
    le-trans_ℤ (least_cost m (suc n) p x) (choice_cost m n (least_cost m n) p x a) (remembered_cost m policy earlier (suc n) (grid_state p x))
    (least-le (choice_cost m n (least_cost m n) p x) (choices_at m p) a allowed)
    (choice_cost-le m n (least_cost m n) p x a (λ y. remembered_cost m policy states n (grid_state a y))
    (λ y inside. least_cost_remembered m policy v w n states a y (record { seconds = omega (arith, at.seconds); present = known; vertex = inside })))

pub best_costs_least : (m : ModelData) → IsModel m → (policy : MemoryPolicy) (n p : ℕ) (x : Vertex) → IsMemoryPolicy m policy → IsEntry m n p x → expected_cost m (best_policy m) n p x ≤ℤ cost_over_trajectories m policy n p x
best_costs_least m v policy n p x w at =
    subst (λ z. expected_cost m (best_policy m) n p x ≤ℤ z) (sym (sum_is_remembered m policy v n [] (grid_state p x)))
    (subst (λ z. z ≤ℤ remembered_cost m policy [] n (grid_state p x)) (sym (best_cost m v n p x at.present)) (least_cost_remembered m policy v w n [] p x at))

pub lower_bound_over_trajectories : (m : ModelData) (t : Table) (policy : MemoryPolicy) (n p : ℕ) (x : Vertex) → IsModel m → HasTwoSidedBounds m t → IsMemoryPolicy m policy → IsEntry m n p x →
    (pos (transition_total m ^ n) *ℤ t.lower n p x) ≤ℤ (pos 1_000_000 *ℤ cost_over_trajectories m policy n p x)
lower_bound_over_trajectories m t policy n p x v bounds w at =
    let best : ℤ = expected_cost m (best_policy m) n p x in
    le-trans_ℤ (pos (transition_total m ^ n) *ℤ t.lower n p x) (pos 1_000_000 *ℤ best) (pos 1_000_000 *ℤ cost_over_trajectories m policy n p x)
    ((bounds.below (best_policy m) (best_is_policy m v)).holds n p x at)
    (mul-le_ℤ 1_000_000 best (cost_over_trajectories m policy n p x) (best_costs_least m v policy n p x w at))
