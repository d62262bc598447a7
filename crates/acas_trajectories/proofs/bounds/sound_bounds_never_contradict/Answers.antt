use Rattle.std.proofs.Common.{ℕ, ◌^◌, pos, ◌*ℤ◌, ◌≤ℤ◌}
use Rattle.acas_spec.specs.Limits.{IsModel}
use Rattle.acas_spec.specs.Model.{ModelData}
use Rattle.acas_spec.specs.Table.{Table}
use Rattle.acas_spec.specs.declared.place.Vertex.{Vertex}
use Rattle.acas_frac.proofs.SignedProducts.{le-from_mul_ℤ, le-trans_ℤ}
use Rattle.acas_policies.specs.Bounds.{HasTwoSidedBounds}
use Rattle.acas_process.specs.Cost.{IsEntry, expected_cost, transition_total}
use Rattle.acas_policies.proofs.BoundLaws.{two_sided_bounds}
use Rattle.acas_process.proofs.MeanLaws.{total_power_pos}
use Rattle.acas_trajectories.proofs.bounds.sound_bounds_never_contradict.Goals as goal

-- the other table's advice costs at most its upper values, and no policy less than the lower values of the one
at_most : (m : ModelData) (one other : Table) (n p : ℕ) (x : Vertex) → IsModel m → HasTwoSidedBounds m one → HasTwoSidedBounds m other → IsEntry m n p x → one.lower n p x ≤ℤ other.upper n p x
at_most m one other n p x v b c at =
    let power : ℕ = transition_total m ^ n in
    le-from_mul_ℤ power (one.lower n p x) (other.upper n p x) (total_power_pos m n v)
    (le-trans_ℤ (pos power *ℤ one.lower n p x) (pos 1_000_000 *ℤ expected_cost m other.advice n p x) (pos power *ℤ other.upper n p x)
    ((b.below other.advice c.policy).holds n p x at) (c.above.holds n p x at))

pub returns-clause-bounded : goal.returns-clause-bounded
returns-clause-bounded c m one other n p x v a b at = (at_most m one other n p x v a b at, at_most m other one n p x v b a at)

pub returns-clause-sound : goal.returns-clause-sound
returns-clause-sound c m one other n p x v s r at =
    let a = two_sided_bounds m one v s in
    let b = two_sided_bounds m other v r in
    (at_most m one other n p x v a b at, at_most m other one n p x v b a at)
