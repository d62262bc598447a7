-- Values over the advisories that are allowed, and policies that keep to these: by one law such values bound what such policies cost.
use Rattle.std.specs.Prelude.{ℕ, suc, ◌<◌, ◌≤ℤ◌, List, [], ◌∷◌, Contains}
use Rattle.acas_spec.specs.Model.{ModelData, choices_at}
use Rattle.acas_spec.specs.Table.{Policy, Values}
use Rattle.acas_spec.specs.declared.place.Vertex.{Vertex}
use Rattle.acas_process.specs.Cost.{IsEntry, advisories_of, terminal_cost}
use Rattle.acas_process.specs.Values.{millionths}
use Rattle.acas_policies.specs.Bounds.{lower_value, upper_value}

-- which advisories are allowed, for each number of seconds to go, present advisory and vertex
abbrev pub Allowed : Type 0
Allowed = ℕ → ℕ → Vertex → List ℕ

-- all that may be chosen
abbrev pub any_choice : ModelData → Allowed
any_choice m n p x = advisories_of (choices_at m p)

-- what a policy says, and nothing else
abbrev pub only : Policy → Allowed
only policy n p x = policy n p x ∷ []

-- a policy says advisories of the model, whether or not they may be chosen where it says them
pub record SaysAdvisories (m : ModelData) (policy : Policy) : Type 0 where
  pub known : (n p : ℕ) (x : Vertex) → IsEntry m (suc n) p x → policy (suc n) p x < m.grid.advisories

-- a policy says what is allowed
pub record KeepsTo (m : ModelData) (allowed : Allowed) (policy : Policy) : Type 0 where
  pub known : SaysAdvisories m policy
  pub among : (n p : ℕ) (x : Vertex) → IsEntry m (suc n) p x → Contains (allowed (suc n) p x) (policy (suc n) p x)

-- values are large enough: at least the cost at the end, and earlier at least the upper value of each allowed advisory by the layer below
pub record AreHighEnough (m : ModelData) (allowed : Allowed) (values : ℕ → Values) : Type 0 where
  pub ending : (p : ℕ) (x : Vertex) → IsEntry m 0 p x → millionths (terminal_cost m x) ≤ℤ values 0 p x
  pub later : (n p a : ℕ) (x : Vertex) → IsEntry m (suc n) p x → Contains (allowed (suc n) p x) a
      → upper_value m (values n) p x a ≤ℤ values (suc n) p x

-- values are small enough: at most the cost at the end, and earlier at most the lower value of each allowed advisory by the layer below
pub record AreLowEnough (m : ModelData) (allowed : Allowed) (values : ℕ → Values) : Type 0 where
  pub ending : (p : ℕ) (x : Vertex) → IsEntry m 0 p x → values 0 p x ≤ℤ millionths (terminal_cost m x)
  pub later : (n p a : ℕ) (x : Vertex) → IsEntry m (suc n) p x → Contains (allowed (suc n) p x) a
      → values (suc n) p x ≤ℤ lower_value m (values n) p x a
