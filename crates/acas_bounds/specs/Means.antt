-- What the inner functions say: the means of the layer below, and an entry's fault by them.
use Rattle.std.specs.Prelude.{◌≡◌, ◌<◌, ◌≤ℤ◌, true, ℕ, zero, suc, ℤ, List, length, Option, Some, None, Result, Ok, Err, if◌then◌else◌, ⊤}
use Rattle.acas_spec.specs.Model.{ModelData, choices_at, states}
use Rattle.acas_spec.specs.Table.{Table}
use Rattle.acas_spec.specs.declared.place.Vertex.{Vertex}
use Rattle.acas_frac.specs.Rounding.{down, up}
use Rattle.acas_units.specs.declared.pair.Entry.{Entry}
use Rattle.acas_units.specs.declared.pair.Pair.{Pair}
use Rattle.acas_process.specs.Values.{mean_value, millionths}
use Rattle.acas_process.specs.Compiled.{least}
use Rattle.acas_process.specs.Cost.{cost_of, terminal_cost}
use Rattle.acas_means.specs.Choices.{value_by_mean}
use Rattle.acas_means.specs.Layer.{layer_values, value_at}
use Rattle.acas_means.specs.declared.layer.Side.TheVariants.{Upper, Lower}
use Rattle.acas_bounds.specs.Sound.{is_allowed, values_fault}
use Rattle.acas_bounds.specs.declared.below.Below.{Below}
use Rattle.acas_bounds.specs.declared.below.Below.TheVariants.{AtStates, AtVertex}
use Rattle.acas_spec.specs.declared.fault.BoundFault.{BoundFault}
use Rattle.acas_spec.specs.declared.fault.BoundFault.TheVariants.{AdviceNotAllowed}

-- there are means for all states of the model, or for each advisory at a vertex
abbrev pub HasMeans : ModelData → Below → Type 0
HasMeans m (AtStates means) = length means.now ≡ states m.grid
HasMeans m (AtVertex means) = ⊤

-- the upper mean of the layer below at the vertex x under the advisory a
abbrev pub upper_below : ModelData → Below → Vertex → ℕ → ℤ
upper_below m (AtStates means) x a = layer_values Upper m.grid means.now a x
upper_below m (AtVertex means) x a = value_at Upper means.now a

-- the lower mean in the same way
abbrev pub lower_below : ModelData → Below → Vertex → ℕ → ℤ
lower_below m (AtStates means) x a = layer_values Lower m.grid means.now a x
lower_below m (AtVertex means) x a = value_at Lower means.now a

-- the upper mean among those of all states, at the vertex x under the advisory a
abbrev pub formed_upper : ModelData → List Pair → Vertex → ℕ → ℤ
formed_upper m means x a = layer_values Upper m.grid means a x

-- the lower mean in the same way
abbrev pub formed_lower : ModelData → List Pair → Vertex → ℕ → ℤ
formed_lower m means x a = layer_values Lower m.grid means a x

-- at the vertex x, two functions of an advisory are the means of a table's layer with k seconds to go
pub record AreOfLayer (m : ModelData) (t : Table) (k : ℕ) (x : Vertex) (high low : ℕ → ℤ) : Type 0 where
  pub upper : (a : ℕ) → a < m.grid.advisories → high a ≡ mean_value up m (t.upper k) x a
  pub lower : (a : ℕ) → a < m.grid.advisories → low a ≡ mean_value down m (t.lower k) x a

-- the cost of an advisory, where it is in the list of choices
abbrev pub allowed_cost : ModelData → ℕ → ℕ → Option ℤ
allowed_cost m p a = if is_allowed m p a then Some (cost_of m p a) else None

-- what an entry of these two values fails with no second to go at the vertex x
abbrev pub ending_fault : ModelData → Vertex → Pair → Option BoundFault
ending_fault m x pair =
    let cost = millionths (terminal_cost m x) in
    values_fault pair.upper cost pair.lower cost

-- what an entry fails where p is present, by the upper and lower means of the layer below under each advisory
abbrev pub choice_fault : ModelData → (ℕ → ℤ) → (ℕ → ℤ) → ℕ → Entry → Option BoundFault
choice_fault m upper lower p e =
    let needed = value_by_mean m p upper e.advice in
    let allowed = least (value_by_mean m p lower) (choices_at m p) in
    if is_allowed m p e.advice
    then values_fault e.pair.upper needed e.pair.lower allowed
    else Some AdviceNotAllowed

-- the advice of an entry is allowed where p is present, and its upper value is at least that of the advice
pub record IsUpperMet (m : ModelData) (upper : ℕ → ℤ) (p : ℕ) (e : Entry) : Type 0 where
  pub allowed : is_allowed m p e.advice ≡ true
  pub enough : value_by_mean m p upper e.advice ≤ℤ e.pair.upper

-- what an entry fails with n seconds to go
abbrev pub fault_by_means : ModelData → (ℕ → ℤ) → (ℕ → ℤ) → ℕ → ℕ → Vertex → Entry → Option BoundFault
fault_by_means m upper lower zero p x e = ending_fault m x e.pair
fault_by_means m upper lower (suc n) p x e = choice_fault m upper lower p e

-- Ok where there is no fault, and otherwise the fault
abbrev pub answer_of : Option BoundFault → Result (Unit {0}) BoundFault
answer_of None = Ok tt
answer_of (Some fault) = Err fault
