-- Sums of counts of decisions.
use Rattle.std.proofs.Common.{◌≡◌, ℕ, suc, ◌+◌, subst, arith}
use Rattle.acas_cells.specs.DecisionCounts.{IsSumBelow, one_more}

-- one number more
pub one_more_at : (IsOf : ℕ → ℕ → Type 0) (k sum next : ℕ) → IsSumBelow IsOf k sum → IsOf k next → IsSumBelow IsOf (k + 1) (sum + next)
one_more_at IsOf k sum next before here =
    let e : suc k ≡ k + 1 = omega arith in
    subst (λ (x : ℕ). IsSumBelow IsOf x (sum + next)) e (one_more k sum next before here)
