use Rattle.std.proofs.Common.{◌≡◌, ℕ, ℤ, pos, ◌*ℤ◌, [], ◌∷◌, ap, sym, ◌∙◌, arith}
use Rattle.std.proofs.lemmas.Int.{ints}
use Rattle.acas_frac.proofs.SignedProducts.{mul_assoc_ℤ}
use Rattle.acas_process.specs.Cost.{transition_weight}
use Rattle.acas_trajectories.specs.Memory.{grid_state}
use Rattle.acas_trajectories.proofs.trajectories.trajectories_in_numbers.Goals as goal

of_three : (a b c : ℤ) → a *ℤ (b *ℤ (c *ℤ pos 1)) ≡ a *ℤ b *ℤ c
of_three a b c = ap (λ z. a *ℤ (b *ℤ z)) (omega (arith, ints)) ∙ sym (mul_assoc_ℤ a b c)

pub returns-clause-no_second_cost : goal.returns-clause-no_second_cost
returns-clause-no_second_cost c m policy p x = omega (arith, ints)

pub returns-clause-weight : goal.returns-clause-weight
returns-clause-weight c m policy p x y z w =
    let a : ℕ = policy [] 3 p x in
    let b : ℕ = policy (grid_state p x ∷ []) 2 a y in
    let last : ℕ = policy (grid_state a y ∷ grid_state p x ∷ []) 1 b z in
    of_three (transition_weight m x a y) (transition_weight m y b z) (transition_weight m z last w)

pub returns-clause-cost : goal.returns-clause-cost
returns-clause-cost c m policy p x y z w = omega (arith, ints)
