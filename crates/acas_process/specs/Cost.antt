-- What a policy costs: a Markov decision process over the states, exact, with nothing rounded.
use Rattle.std.specs.Prelude.{◌≡◌, ℕ, zero, suc, ◌*◌, ◌^◌, ◌<◌, ◌≤◌, ℤ, pos, ◌+ℤ◌, ◌*ℤ◌, unsigned_abs, List, [], ◌∷◌, map, Contains, if◌then◌else◌, nat_eq, nat_le}
use Rattle.acas_units.specs.declared.limits.TheConstants.{LEAST_COST, GREATEST_COST}
use Rattle.acas_spec.specs.Axis.{IsBetween}
use Rattle.acas_spec.specs.Model.{ModelData, choices_at, total_weight}
use Rattle.acas_spec.specs.declared.parts.Choice.{Choice}
use Rattle.acas_spec.specs.Table.{Policy}
use Rattle.acas_grid.specs.Grid.{IsVertex}
use Rattle.acas_spec.specs.declared.place.Vertex.{Vertex}
use Rattle.acas_process.specs.Step.{vertex_point, moved, grid_product, share, over_vertices, over_sigmas, sigma_weight}

-- an entry of a table has n seconds to go, up to the horizon, a present advisory p and a vertex x
pub record IsEntry (m : ModelData) (n p : ℕ) (x : Vertex) : Type 0 where
  pub seconds : n ≤ m.grid.horizon
  pub present : p < m.grid.advisories
  pub vertex : IsVertex m.grid x

-- the advisories of a list of choices
abbrev pub advisories_of : List Choice → List ℕ
advisories_of choices = map (λ c. c.advisory) choices

-- the advisory a may be chosen where p is present
abbrev pub MayChoose : ModelData → ℕ → ℕ → Type 0
MayChoose m p a = Contains (advisories_of (choices_at m p)) a

-- the cost of an advisory in a list of choices
abbrev pub cost_among : List Choice → ℕ → ℤ
cost_among [] a = pos 0
cost_among (c ∷ rest) a = if nat_eq c.advisory a then c.cost else cost_among rest a

-- what a second under the advisory a costs where p is present, in units
abbrev pub cost_of : ModelData → ℕ → ℕ → ℤ
cost_of m p a = cost_among (choices_at m p) a

-- a choice under p is known: its advisory is one of the model's, its cost is that of a second under it, and is within its limits
pub record IsKnownChoice (m : ModelData) (p : ℕ) (c : Choice) : Type 0 where
  pub inside : c.advisory < m.grid.advisories
  pub cost : cost_of m p c.advisory ≡ c.cost
  pub limits : IsBetween LEAST_COST GREATEST_COST c.cost

-- the cost at the end, in units: that of contact where the altitude is at most half the puck's height away, and 0 elsewhere
abbrev pub terminal_cost : ModelData → Vertex → ℤ
terminal_cost m x = if nat_le (unsigned_abs (vertex_point m.grid x).h) m.half then m.contact else pos 0

-- what a policy says may be chosen, with at least one second to go
pub record IsPolicy (m : ModelData) (policy : Policy) : Type 0 where
  pub allowed : (n p : ℕ) (x : Vertex) → 0 < n → IsEntry m n p x → MayChoose m p (policy n p x)

-- the weight with which a second under the advisory a leads from the vertex x to the vertex y: over the total, its probability
abbrev pub transition_weight : ModelData → Vertex → ℕ → Vertex → ℤ
transition_weight m x a y = over_sigmas m (λ q. pos (sigma_weight m q * share m.grid (moved m x a q) y))

-- what the weights of all vertices sum to
abbrev pub transition_total : ModelData → ℕ
transition_total m = total_weight m * grid_product m.grid

-- the expected cost of a policy with n seconds to go from the vertex x where p is present, in units, times the n-th power of the total
abbrev pub expected_cost : ModelData → Policy → ℕ → ℕ → Vertex → ℤ
expected_cost m policy zero p x = terminal_cost m x
expected_cost m policy (suc n) p x =
    let a : ℕ = policy (suc n) p x in
    pos (transition_total m ^ suc n) *ℤ cost_of m p a
    +ℤ over_vertices m.grid (λ y. transition_weight m x a y *ℤ expected_cost m policy n a y)
