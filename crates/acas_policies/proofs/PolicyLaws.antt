-- The values of a policy: what they are high and low enough over, how close they are, and that they are those of what the policy says.
use Rattle.std.proofs.Common.{◌≡◌, ℕ, zero, suc, ◌*◌, ◌^◌, ◌<◌, ℤ, pos, ◌+ℤ◌, ◌*ℤ◌, ◌≤ℤ◌, refl, ap, ◌∙◌, arith}
use Rattle.std.proofs.lemmas.Int.{ints}
use Rattle.acas_spec.specs.Limits.{IsModel}
use Rattle.acas_spec.specs.Model.{ModelData}
use Rattle.acas_spec.specs.Table.{Policy, Table}
use Rattle.acas_spec.specs.declared.place.Vertex.{Vertex}
use Rattle.acas_frac.specs.Rounding.{down, up}
use Rattle.acas_policies.specs.Allowed.{AreHighEnough, AreLowEnough, SaysAdvisories, any_choice, only}
use Rattle.acas_process.specs.Values.{choice_value}
use Rattle.acas_policies.specs.Bounds.{IsSound, lower_value, upper_value}
use Rattle.acas_process.specs.Cost.{IsEntry, cost_of, expected_cost, transition_total, transition_weight}
use Rattle.acas_policies.specs.Policies.{AreBounds, policy_values}
use Rattle.acas_process.specs.Step.{over_vertices}
use Rattle.acas_policies.proofs.BoundLaws.{keeps_to_advice, keeps_to_choices, keeps_to_itself, low-le-high, lower_bound_at, of_only, sound_lower, sound_policy, sound_upper, state_below, upper_bound_at}
use Rattle.acas_process.proofs.MeanLaws.{mean-le-mean}
use Rattle.acas_process.proofs.SameLaws.{choice_same}
use Rattle.acas_process.proofs.VertexLaws.{over_vertices-same}

-- ---- bounds

pub policy_upper : (m : ModelData) (policy : Policy) → AreHighEnough m (only policy) (policy_values up m policy)
policy_upper m policy = record {
  ending = λ p x at. omega (arith, ints);
  later = λ n p a x at c. of_only (λ b. upper_value m (policy_values up m policy n) p x b ≤ℤ policy_values up m policy (suc n) p x) (policy (suc n) p x) (omega (arith, ints)) a c;
}

pub policy_lower : (m : ModelData) (policy : Policy) → AreLowEnough m (only policy) (policy_values down m policy)
policy_lower m policy = record {
  ending = λ p x at. omega (arith, ints);
  later = λ n p a x at c. of_only (λ b. policy_values down m policy (suc n) p x ≤ℤ lower_value m (policy_values down m policy n) p x b) (policy (suc n) p x) (omega (arith, ints)) a c;
}

policy_gap : (m : ModelData) (policy : Policy) → IsModel m → (n p : ℕ) (x : Vertex) → policy_values up m policy n p x ≤ℤ (policy_values down m policy n p x +ℤ pos (2 * n))
policy_gap m policy v zero p x = omega (arith, ints)
policy_gap m policy v (suc n) p x =
    let a : ℕ = policy (suc n) p x in
    let means = mean-le-mean m (policy_values up m policy n) (policy_values down m policy n) x a (2 * n) v (λ y k. policy_gap m policy v n a y) in
    omega (arith, ints, means)

pub policy_bounds : (m : ModelData) (policy : Policy) (n p : ℕ) (x : Vertex) → IsModel m → SaysAdvisories m policy → IsEntry m n p x →
    AreBounds m n (expected_cost m policy n p x) (policy_values down m policy n p x) (policy_values up m policy n p x)
policy_bounds m policy n p x v says at = record {
  below = lower_bound_at m (only policy) (policy_values down m policy) policy n p x v (policy_lower m policy) (keeps_to_itself m policy says) at;
  above = upper_bound_at m (only policy) (policy_values up m policy) policy n p x v (policy_upper m policy) (keeps_to_itself m policy says) at;
  tight = policy_gap m policy v n p x;
}

-- ---- against a sound table

pub table-le-policy : (m : ModelData) (t : Table) (n p : ℕ) (x : Vertex) → IsModel m → IsSound m t → IsEntry m n p x → t.lower n p x ≤ℤ policy_values up m t.advice n p x
table-le-policy m t n p x v s at =
    low-le-high m (any_choice m) (only t.advice) t.lower (policy_values up m t.advice) t.advice n p x v
    (sound_lower m t s) (keeps_to_choices m t.advice v (sound_policy m t s)) (policy_upper m t.advice) (keeps_to_advice m t v s) at

pub policy-le-table : (m : ModelData) (t : Table) (n p : ℕ) (x : Vertex) → IsModel m → IsSound m t → IsEntry m n p x → policy_values down m t.advice n p x ≤ℤ t.upper n p x
policy-le-table m t n p x v s at =
    low-le-high m (only t.advice) (only t.advice) (policy_values down m t.advice) t.upper t.advice n p x v
    (policy_lower m t.advice) (keeps_to_advice m t v s) (sound_upper m t s) (keeps_to_advice m t v s) at

-- ---- policies that say the same

-- two policies say the same at each entry with a second to go and more
abbrev pub SayTheSame : ModelData → Policy → Policy → Type 0
SayTheSame m one other = (k q : ℕ) (y : Vertex) → IsEntry m k q y → 0 < k → one k q y ≡ other k q y

pub same_cost : (m : ModelData) (one other : Policy) (n p : ℕ) (x : Vertex) → SaysAdvisories m one → SayTheSame m one other → IsEntry m n p x → expected_cost m one n p x ≡ expected_cost m other n p x
same_cost m one other zero p x says same at = refl
same_cost m one other (suc n) p x says same at =
    let a : ℕ = one (suc n) p x in
    ap (λ z. pos (transition_total m ^ suc n) *ℤ cost_of m p a +ℤ z)
    (over_vertices-same m.grid _ _ (λ y k. ap (λ z. transition_weight m x a y *ℤ z) (same_cost m one other n a y says same (state_below m one n p x y says at k))))
    ∙ ap (λ (b : ℕ). pos (transition_total m ^ suc n) *ℤ cost_of m p b +ℤ over_vertices m.grid (λ y. transition_weight m x b y *ℤ expected_cost m other n b y)) (same (suc n) p x at (omega arith))

pub same_values : (round : ℤ → ℤ → ℤ) (m : ModelData) (one other : Policy) (n p : ℕ) (x : Vertex) → SaysAdvisories m one → SayTheSame m one other → IsEntry m n p x → policy_values round m one n p x ≡ policy_values round m other n p x
same_values round m one other zero p x says same at = refl
same_values round m one other (suc n) p x says same at =
    choice_same round m (policy_values round m one n) (policy_values round m other n) p x (one (suc n) p x)
    (λ y k. same_values round m one other n (one (suc n) p x) y says same (state_below m one n p x y says at k))
    ∙ ap (λ (a : ℕ). choice_value round m (policy_values round m other n) p x a) (same (suc n) p x at (omega arith))
