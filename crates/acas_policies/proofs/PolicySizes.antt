-- How large the values of a policy are.
use Rattle.std.proofs.Common.{ℕ, zero, suc, ◌+◌, ◌*◌, ◌≤◌, ℤ, unsigned_abs, arith}
use Rattle.std.proofs.lemmas.Int.{ints}
use Rattle.acas_spec.specs.Limits.{IsModel}
use Rattle.acas_spec.specs.Model.{ModelData}
use Rattle.acas_spec.specs.declared.place.Vertex.{Vertex}
use Rattle.acas_frac.specs.Rounding.{IsRounding}
use Rattle.acas_policies.specs.Allowed.{SaysAdvisories}
use Rattle.acas_process.specs.Cost.{IsEntry}
use Rattle.acas_spec.specs.Table.{Policy}
use Rattle.acas_policies.specs.Policies.{policy_values}
use Rattle.acas_process.proofs.SizeLaws.{choice_size, terminal_size}
use Rattle.acas_policies.proofs.BoundLaws.{state_below}

-- the values of a policy are at most (n + 1) * 10 ^ 15 in size with n seconds to go
pub policy_size : (round : ℤ → ℤ → ℤ) → IsRounding round → (m : ModelData) (policy : Policy) (n p : ℕ) (x : Vertex) → IsModel m → SaysAdvisories m policy → IsEntry m n p x →
    unsigned_abs (policy_values round m policy n p x) ≤ (n + 1) * 1_000_000_000_000_000
policy_size round way m policy zero p x v says at = omega (arith, ints, terminal_size m x v)
policy_size round way m policy (suc n) p x v says at =
    let a : ℕ = policy (suc n) p x in
    omega (arith, choice_size round way m v (policy_values round m policy n) p x a ((n + 1) * 1_000_000_000_000_000) at.present (λ y k. policy_size round way m policy n a y v says (state_below m policy n p x y says at k)))
