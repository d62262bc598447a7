-- What a table of upper and lower values in millionths of a unit promises.
use Rattle.std.specs.Prelude.{ℕ, zero, suc, ◌*◌, ◌^◌, ℤ, pos, ◌+ℤ◌, ◌*ℤ◌, ◌≤ℤ◌}
use Rattle.acas_spec.specs.Model.{ModelData}
use Rattle.acas_spec.specs.declared.place.Vertex.{Vertex}
use Rattle.acas_frac.specs.Rounding.{down, up}
use Rattle.acas_spec.specs.Table.{Policy, Table, Values}
use Rattle.acas_process.specs.Cost.{IsEntry, MayChoose, IsPolicy, terminal_cost, transition_total, expected_cost}
use Rattle.acas_process.specs.Values.{choice_value, millionths}

-- the upper value of a choice: both roundings are up
abbrev pub upper_value : ModelData → Values → ℕ → Vertex → ℕ → ℤ
upper_value m below p x a = choice_value up m below p x a

-- the lower value of a choice: both roundings are down
abbrev pub lower_value : ModelData → Values → ℕ → Vertex → ℕ → ℤ
lower_value m below p x a = choice_value down m below p x a

-- An entry is sound by the layer below. With no second to go the cost at the end is between lower and upper. Otherwise the advice may
-- be chosen, upper is at least the upper value of the advice, and lower is at most the lower value of each choice.
abbrev pub IsSoundEntry : ModelData → Table → ℕ → ℕ → Vertex → Type 0
IsSoundEntry m t zero p x =
    (t.lower 0 p x ≤ℤ millionths (terminal_cost m x))
    × (millionths (terminal_cost m x) ≤ℤ t.upper 0 p x)
IsSoundEntry m t (suc n) p x =
    MayChoose m p (t.advice (suc n) p x)
    × (upper_value m (t.upper n) p x (t.advice (suc n) p x) ≤ℤ t.upper (suc n) p x)
    × ((a : ℕ) → MayChoose m p a → t.lower (suc n) p x ≤ℤ lower_value m (t.lower n) p x a)

-- all entries are sound
pub record IsSound (m : ModelData) (t : Table) : Type 0 where
  pub entries : (n p : ℕ) (x : Vertex) → IsEntry m n p x → IsSoundEntry m t n p x

-- the expected cost of a policy, in millionths, is at most the upper value of every entry
pub record IsUpperBound (m : ModelData) (t : Table) (policy : Policy) : Type 0 where
  pub holds : (n p : ℕ) (x : Vertex) → IsEntry m n p x →
      millionths (expected_cost m policy n p x) ≤ℤ (pos (transition_total m ^ n) *ℤ t.upper n p x)

-- the expected cost of a policy, in millionths, is at least the lower value of every entry
pub record IsLowerBound (m : ModelData) (t : Table) (policy : Policy) : Type 0 where
  pub holds : (n p : ℕ) (x : Vertex) → IsEntry m n p x →
      (pos (transition_total m ^ n) *ℤ t.lower n p x) ≤ℤ millionths (expected_cost m policy n p x)

-- the table's advice is a policy that costs at most its upper values, and no policy costs less than its lower values
pub record HasTwoSidedBounds (m : ModelData) (t : Table) : Type 0 where
  pub policy : IsPolicy m t.advice
  pub above : IsUpperBound m t t.advice
  pub below : (policy : Policy) → IsPolicy m policy → IsLowerBound m t policy

-- the two values of an entry are within two millionths for each second to go
pub record IsTight (m : ModelData) (t : Table) : Type 0 where
  pub holds : (n p : ℕ) (x : Vertex) → IsEntry m n p x → t.upper n p x ≤ℤ (t.lower n p x +ℤ pos (2 * n))
