-- Values that are high enough, or low enough, over what is allowed bound the expected cost of each policy that keeps to it.
use Rattle.std.proofs.Common.{◌≡◌, ℕ, zero, suc, ◌^◌, ◌<◌, ℤ, pos, ◌+ℤ◌, ◌*ℤ◌, ◌≤ℤ◌, [], ◌∷◌, Contains, ap, sym, subst, ◌∙◌, arith}
use Rattle.std.proofs.lemmas.Int.{ints}
use Rattle.std.proofs.Math.Nat.{pow-suc, pow-zero}
use Rattle.acas_spec.specs.Limits.{IsModel}
use Rattle.acas_spec.specs.Model.{ModelData}
use Rattle.acas_grid.specs.Grid.{IsVertex}
use Rattle.acas_spec.specs.declared.place.Vertex.{Vertex}
use Rattle.acas_frac.specs.Rounding.{down, up}
use Rattle.acas_frac.proofs.SignedProducts.{le-from_mul_ℤ, le-trans_ℤ, mul-add_ℤ, mul_assoc_ℤ, mul_comm_ℤ, mul-le_ℤ}
use Rattle.acas_spec.specs.Table.{Policy, Table, Values}
use Rattle.acas_policies.specs.Allowed.{Allowed, AreHighEnough, AreLowEnough, KeepsTo, SaysAdvisories, any_choice, only}
use Rattle.acas_process.specs.Cost.{IsEntry, MayChoose, IsPolicy, cost_of, transition_total, terminal_cost, expected_cost}
use Rattle.acas_process.specs.Values.{mean_value}
use Rattle.acas_policies.specs.Bounds.{upper_value, HasTwoSidedBounds, IsSound}
use Rattle.acas_process.proofs.Least.{Contains-first}
use Rattle.acas_process.proofs.ModelLaws.{is_chosen}
use Rattle.acas_process.proofs.MeanLaws.{spread, spread-le, spread-mul, total_power_pos, transitions_spread, spread-le-mean, mean-le-spread}

abbrev pub million : ℤ
million = pos 1_000_000

-- The steps over plain numbers: `cost` is the second's, `mean` the rounded mean, e and u the sums of the expected costs and of the
-- values below, and m ^ n the denominator below.
scaled_mean : (m n : ℕ) (mean : ℤ) → pos (m ^ n) *ℤ (pos m *ℤ mean) ≡ pos (m ^ suc n) *ℤ mean
scaled_mean m n mean = sym (mul_assoc_ℤ (pos (m ^ n)) (pos m) mean) ∙ ap (λ (z : ℕ). pos z *ℤ mean) (sym (pow-suc m n))

scaled_cost : (k : ℕ) (cost : ℤ) → million *ℤ (pos k *ℤ cost) ≡ pos k *ℤ (million *ℤ cost)
scaled_cost k cost = sym (mul_assoc_ℤ million (pos k) cost) ∙ ap (λ z. z *ℤ cost) (mul_comm_ℤ million (pos k)) ∙ mul_assoc_ℤ (pos k) million cost

upper_step : (m n : ℕ) (cost mean e u top : ℤ) → (million *ℤ e) ≤ℤ (pos (m ^ n) *ℤ u) → u ≤ℤ (pos m *ℤ mean) → (mean +ℤ million *ℤ cost) ≤ℤ top →
    (million *ℤ (pos (m ^ suc n) *ℤ cost +ℤ e)) ≤ℤ (pos (m ^ suc n) *ℤ top)
upper_step m n cost mean e u top h k l =
    omega (
      arith,
      ints,
      mul-le_ℤ (m ^ n) u (pos m *ℤ mean) k,
      scaled_mean m n mean,
      mul-le_ℤ (m ^ suc n) (mean +ℤ million *ℤ cost) top l,
      scaled_cost (m ^ suc n) cost,
      mul-add_ℤ million (pos (m ^ suc n) *ℤ cost) e,
      mul-add_ℤ (pos (m ^ suc n)) mean (million *ℤ cost),
    )

lower_step : (m n : ℕ) (cost mean e u low : ℤ) → (pos (m ^ n) *ℤ u) ≤ℤ (million *ℤ e) → (pos m *ℤ mean) ≤ℤ u → low ≤ℤ (mean +ℤ million *ℤ cost) →
    (pos (m ^ suc n) *ℤ low) ≤ℤ (million *ℤ (pos (m ^ suc n) *ℤ cost +ℤ e))
lower_step m n cost mean e u low h k l =
    omega (
      arith,
      ints,
      mul-le_ℤ (m ^ n) (pos m *ℤ mean) u k,
      scaled_mean m n mean,
      mul-le_ℤ (m ^ suc n) low (mean +ℤ million *ℤ cost) l,
      scaled_cost (m ^ suc n) cost,
      mul-add_ℤ million (pos (m ^ suc n) *ℤ cost) e,
      mul-add_ℤ (pos (m ^ suc n)) mean (million *ℤ cost),
    )

no_power : (m : ℕ) (z : ℤ) → pos (m ^ 0) *ℤ z ≡ z
no_power m z = ap (λ (k : ℕ). pos k *ℤ z) (pow-zero m) ∙ omega (arith, ints)

-- a state below, under what a policy says
pub state_below : (m : ModelData) (policy : Policy) (n p : ℕ) (x y : Vertex) → SaysAdvisories m policy → IsEntry m (suc n) p x → IsVertex m.grid y → IsEntry m n (policy (suc n) p x) y
state_below m policy n p x y says at inside = record { seconds = omega (arith, at.seconds); present = says.known n p x at; vertex = inside }

pub upper_bound_at : (m : ModelData) (allowed : Allowed) (values : ℕ → Values) (policy : Policy) (n p : ℕ) (x : Vertex) → IsModel m → AreHighEnough m allowed values → KeepsTo m allowed policy → IsEntry m n p x →
    (million *ℤ expected_cost m policy n p x) ≤ℤ (pos (transition_total m ^ n) *ℤ values n p x)
upper_bound_at m allowed values policy zero p x v high keeps at =
    subst (λ z. (million *ℤ terminal_cost m x) ≤ℤ z) (sym (no_power (transition_total m) (values 0 p x))) (high.ending p x at)
upper_bound_at m allowed values policy (suc n) p x v high keeps at =
    let a : ℕ = policy (suc n) p x in
    let cost : Vertex → ℤ = λ y. expected_cost m policy n a y in
    let sums : (million *ℤ spread m x a cost) ≤ℤ (pos (transition_total m ^ n) *ℤ spread m x a (values n a)) =
    subst (λ z. z ≤ℤ (pos (transition_total m ^ n) *ℤ spread m x a (values n a))) (spread-mul m x a million cost)
    (subst (λ z. spread m x a (λ y. million *ℤ cost y) ≤ℤ z) (spread-mul m x a (pos (transition_total m ^ n)) (values n a))
    (spread-le m x a (λ y. million *ℤ cost y) (λ y. pos (transition_total m ^ n) *ℤ values n a y) (λ y k. upper_bound_at m allowed values policy n a y v high keeps (state_below m policy n p x y keeps.known at k)))) in
    subst (λ z. (million *ℤ (pos (transition_total m ^ suc n) *ℤ cost_of m p a +ℤ z)) ≤ℤ (pos (transition_total m ^ suc n) *ℤ values (suc n) p x)) (sym (transitions_spread m x a cost))
    (upper_step (transition_total m) n (cost_of m p a) (mean_value up m (values n) x a) (spread m x a cost) (spread m x a (values n a)) (values (suc n) p x) sums (spread-le-mean m (values n) x a v) (high.later n p a x at (keeps.among n p x at)))

pub lower_bound_at : (m : ModelData) (allowed : Allowed) (values : ℕ → Values) (policy : Policy) (n p : ℕ) (x : Vertex) → IsModel m → AreLowEnough m allowed values → KeepsTo m allowed policy → IsEntry m n p x →
    (pos (transition_total m ^ n) *ℤ values n p x) ≤ℤ (million *ℤ expected_cost m policy n p x)
lower_bound_at m allowed values policy zero p x v low keeps at =
    subst (λ z. z ≤ℤ (million *ℤ terminal_cost m x)) (sym (no_power (transition_total m) (values 0 p x))) (low.ending p x at)
lower_bound_at m allowed values policy (suc n) p x v low keeps at =
    let a : ℕ = policy (suc n) p x in
    let cost : Vertex → ℤ = λ y. expected_cost m policy n a y in
    let sums : (pos (transition_total m ^ n) *ℤ spread m x a (values n a)) ≤ℤ (million *ℤ spread m x a cost) =
    subst (λ z. (pos (transition_total m ^ n) *ℤ spread m x a (values n a)) ≤ℤ z) (spread-mul m x a million cost)
    (subst (λ z. z ≤ℤ spread m x a (λ y. million *ℤ cost y)) (spread-mul m x a (pos (transition_total m ^ n)) (values n a))
    (spread-le m x a (λ y. pos (transition_total m ^ n) *ℤ values n a y) (λ y. million *ℤ cost y) (λ y k. lower_bound_at m allowed values policy n a y v low keeps (state_below m policy n p x y keeps.known at k)))) in
    subst (λ z. (pos (transition_total m ^ suc n) *ℤ values (suc n) p x) ≤ℤ (million *ℤ (pos (transition_total m ^ suc n) *ℤ cost_of m p a +ℤ z))) (sym (transitions_spread m x a cost))
    (lower_step (transition_total m) n (cost_of m p a) (mean_value down m (values n) x a) (spread m x a cost) (spread m x a (values n a)) (values (suc n) p x) sums (mean-le-spread m (values n) x a v) (low.later n p a x at (keeps.among n p x at)))

-- values that are low enough are at most those that are high enough, where one policy keeps to what is allowed to both
pub low-le-high : (m : ModelData) (allowed other : Allowed) (low high : ℕ → Values) (policy : Policy) (n p : ℕ) (x : Vertex) → IsModel m → AreLowEnough m allowed low → KeepsTo m allowed policy →
    AreHighEnough m other high → KeepsTo m other policy → IsEntry m n p x → low n p x ≤ℤ high n p x
low-le-high m allowed other low high policy n p x v l keeps h heeds at =
    le-from_mul_ℤ (transition_total m ^ n) (low n p x) (high n p x) (total_power_pos m n v)
    (le-trans_ℤ (pos (transition_total m ^ n) *ℤ low n p x) (million *ℤ expected_cost m policy n p x) (pos (transition_total m ^ n) *ℤ high n p x)
    (lower_bound_at m allowed low policy n p x v l keeps at) (upper_bound_at m other high policy n p x v h heeds at))

-- ---- what is allowed to whom

only_one : (b a : ℕ) → Contains (b ∷ []) a → b ≡ a
only_one b a (zero, h, e) = e
only_one b a (suc k, h, e) = absurd (omega (arith, h))

-- what holds of an advisory holds of each that is among it alone
pub of_only : (P : ℕ → Type 0) (b : ℕ) → P b → (a : ℕ) → Contains (b ∷ []) a → P a
of_only P b h a c = subst P (only_one b a c) h

pub keeps_to_itself : (m : ModelData) (policy : Policy) → SaysAdvisories m policy → KeepsTo m (only policy) policy
keeps_to_itself m policy says = record { known = says; among = λ n p x at. Contains-first (policy (suc n) p x) [] }

pub says_advisories : (m : ModelData) (policy : Policy) → IsModel m → IsPolicy m policy → SaysAdvisories m policy
says_advisories m policy v w = record { known = λ n p x at. (is_chosen m p (policy (suc n) p x) v at.present (w.allowed (suc n) p x (omega arith) at)).inside }

pub keeps_to_choices : (m : ModelData) (policy : Policy) → IsModel m → IsPolicy m policy → KeepsTo m (any_choice m) policy
keeps_to_choices m policy v w = record { known = says_advisories m policy v w; among = λ n p x at. w.allowed (suc n) p x (omega arith) at }

-- ---- a table whose entries are all sound

sound_advice : (m : ModelData) (t : Table) → IsSound m t → (n p : ℕ) (x : Vertex) → 0 < n → IsEntry m n p x → MayChoose m p (t.advice n p x)
sound_advice m t s zero p x h at = absurd (omega arith)
sound_advice m t s (suc n) p x h at = (s.entries (suc n) p x at).0

pub sound_policy : (m : ModelData) (t : Table) → IsSound m t → IsPolicy m t.advice
sound_policy m t s = record { allowed = sound_advice m t s }

pub sound_upper : (m : ModelData) (t : Table) → IsSound m t → AreHighEnough m (only t.advice) t.upper
sound_upper m t s = record {
  ending = λ p x at. (s.entries 0 p x at).1;
  later = λ n p a x at c. of_only (λ b. upper_value m (t.upper n) p x b ≤ℤ t.upper (suc n) p x) (t.advice (suc n) p x) (s.entries (suc n) p x at).1 a c;
}

pub sound_lower : (m : ModelData) (t : Table) → IsSound m t → AreLowEnough m (any_choice m) t.lower
sound_lower m t s = record { ending = λ p x at. (s.entries 0 p x at).0; later = λ n p a x at c. (s.entries (suc n) p x at).2 a c }

pub keeps_to_advice : (m : ModelData) (t : Table) → IsModel m → IsSound m t → KeepsTo m (only t.advice) t.advice
keeps_to_advice m t v s = keeps_to_itself m t.advice (says_advisories m t.advice v (sound_policy m t s))

pub two_sided_bounds : (m : ModelData) (t : Table) → IsModel m → IsSound m t → HasTwoSidedBounds m t
two_sided_bounds m t v s = record {
  policy = sound_policy m t s;
  above = record { holds = λ n p x at. upper_bound_at m (only t.advice) t.upper t.advice n p x v (sound_upper m t s) (keeps_to_advice m t v s) at };
  below = λ policy w. record { holds = λ n p x at. lower_bound_at m (any_choice m) t.lower policy n p x v (sound_lower m t s) (keeps_to_choices m policy v w) at };
}
