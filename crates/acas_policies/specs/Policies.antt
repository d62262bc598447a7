-- What a fixed policy costs, and how likely contact is under it: exact, and as values in millionths that are rounded layer by layer.
use Rattle.std.specs.Prelude.{ℕ, zero, suc, ◌*◌, ◌^◌, ℤ, pos, ◌+ℤ◌, ◌*ℤ◌, ◌≤ℤ◌, unsigned_abs, Bool, nat_le, map, if◌then◌else◌}
use Rattle.acas_spec.specs.Model.{ModelData}
use Rattle.acas_spec.specs.Table.{Policy, Values}
use Rattle.acas_spec.specs.declared.parts.Choice.{Choice}
use Rattle.acas_spec.specs.declared.place.Vertex.{Vertex}
use Rattle.acas_process.specs.Step.{over_vertices, vertex_point}
use Rattle.acas_process.specs.Cost.{terminal_cost, transition_total, transition_weight}
use Rattle.acas_process.specs.Values.{choice_value, millionths}

-- the policy that never advises anything: always the first advisory, clear of conflict, whether or not it may be chosen
abbrev pub always_clear : Policy
always_clear n p x = 0

-- contact at a vertex: its altitude is at most half the puck's height away, above or below
abbrev pub in_contact : ModelData → Vertex → Bool
in_contact m x = nat_le (unsigned_abs (vertex_point m.grid x).h) m.half

-- the chance that a flight under a policy ends in contact, with n seconds to go from the vertex x where p is present, times the n-th power
-- of the total
abbrev pub contact_chance : ModelData → Policy → ℕ → ℕ → Vertex → ℤ
contact_chance m policy zero p x = if in_contact m x then pos 1 else pos 0
contact_chance m policy (suc n) p x =
    let a : ℕ = policy (suc n) p x in
    over_vertices m.grid (λ y. transition_weight m x a y *ℤ contact_chance m policy n a y)

-- the same choice, at no cost
abbrev pub without_cost : Choice → Choice
without_cost c = record { advisory = c.advisory; cost = pos 0 }

-- the same model, in which contact costs 1 and a second costs nothing: what a policy costs in it is its chance of contact
abbrev pub counting_contact : ModelData → ModelData
counting_contact m = record m { choices = map (λ choices. map without_cost choices) m.choices; contact = pos 1 }

-- the values of a policy, by the way to round: the cost at the end, and earlier the value of choosing what it says by the layer below
abbrev pub policy_values : (ℤ → ℤ → ℤ) → ModelData → Policy → ℕ → Values
policy_values round m policy zero p x = millionths (terminal_cost m x)
policy_values round m policy (suc n) p x = choice_value round m (policy_values round m policy n) p x (policy (suc n) p x)

-- two values are bounds of a number with n seconds to go, which is a number of units times the n-th power of the total: it is between
-- them, in millionths, and they are within two millionths for each second
pub record AreBounds (m : ModelData) (n : ℕ) (number lower upper : ℤ) : Type 0 where
  pub below : (pos (transition_total m ^ n) *ℤ lower) ≤ℤ millionths number
  pub above : millionths number ≤ℤ (pos (transition_total m ^ n) *ℤ upper)
  pub tight : upper ≤ℤ (lower +ℤ pos (2 * n))

-- the same of a chance, of which bounds are from 0 to a million millionths
pub record AreChanceBounds (m : ModelData) (n : ℕ) (chance lower upper : ℤ) : Type 0 where
  pub bounds : AreBounds m n chance lower upper
  pub least : pos 0 ≤ℤ lower
  pub greatest : upper ≤ℤ pos 1_000_000
