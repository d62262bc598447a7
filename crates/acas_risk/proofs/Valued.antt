-- The layers of the values of a policy, whichever is counted.
use Rattle.std.proofs.Common.{◌≡◌, ℕ, suc, ◌+◌, ◌^◌, ◌<◌, ◌≤◌, ℤ, ◌+ℤ◌, ⊎_elim, List, length, set, unsigned_abs, refl, ap, sym, subst, ◌∙◌, arith}
use Rattle.acas_spec.specs.Model.{ModelData, states}
use Rattle.acas_spec.specs.Table.{Policy}
use Rattle.acas_spec.specs.declared.place.Vertex.{Vertex}
use Rattle.acas_frac.specs.Rounding.{down, up}
use Rattle.acas_grid.specs.Grid.{state_number, vertex_number}
use Rattle.acas_grid.specs.States.{state_present, state_vertex}
use Rattle.acas_grid.proofs.StateNumbers.{state_present-below, state_present-state_number, state_vertex-state_number}
use Rattle.acas_grid.proofs.Vertices.{vertices-one_to_one}
use Rattle.acas_units.specs.declared.pair.Pair.{Pair}
use Rattle.acas_process.specs.Values.{choice_value, mean_value, millionths}
use Rattle.acas_process.specs.Cost.{terminal_cost}
use Rattle.acas_policies.specs.Allowed.{SaysAdvisories}
use Rattle.acas_policies.specs.Policies.{counting_contact, policy_values}
use Rattle.acas_process.proofs.SameLaws.{mean_same}
use Rattle.acas_means.specs.Columns.{columns}
use Rattle.acas_means.specs.Layer.{AreWithin, layer_values, no_pair, pair_at, value_at}
use Rattle.acas_means.specs.declared.layer.Side.{Side}
use Rattle.acas_means.specs.declared.layer.Side.TheVariants.{Lower, Upper}
use Rattle.acas_means.proofs.ColumnPlaces.{column_below}
use Rattle.acas_means.proofs.NumberedStates.{layer_values-is, state_number-below}
use Rattle.acas_means.proofs.PlacedMeans.{below_or_at}
use Rattle.acas_means.proofs.Written.{each_written}
use Rattle.acas_risk.specs.Counts.{AreSecondCosts, model_counting}
use Rattle.acas_risk.specs.Layers.{AreOver, cost_at, given_at}
use Rattle.acas_risk.specs.Pairs.{ArePairsOf}
use Rattle.acas_risk.specs.declared.counted.Counted.{Counted}
use Rattle.acas_risk.specs.declared.counted.Counted.TheVariants.{Contacts, Costs}

pair_is : (p : Pair) (upper lower : ℤ) → p.upper ≡ upper → p.lower ≡ lower → p ≡ record { upper = upper; lower = lower }
pair_is p upper lower u l = rw (← u, ← l) refl

-- ---- with no second to go

-- what the end of a state by its number counts
abbrev pub end_value : Counted → ModelData → ℕ → ℤ
end_value counted m s = millionths (terminal_cost (model_counting counted m) (state_vertex m.grid s))

-- a pair has that on both sides, and it is not too large
pub record IsEnding (counted : Counted) (m : ModelData) (s : ℕ) (pair : Pair) : Type 0 where
  pub value : pair ≡ record { upper = end_value counted m s; lower = end_value counted m s }
  pub small : unsigned_abs (end_value counted m s) ≤ 10 ^ 15

-- the pairs of the states below one, and that of one more
pub ending_next : (counted : Counted) (m : ModelData) (s : ℕ) (pairs : List Pair) (pair : Pair) (z : ℤ) → s < length pairs → ((r : ℕ) → r < s → IsEnding counted m r (pair_at pairs r))
    → pair.upper ≡ z → pair.lower ≡ z → z ≡ end_value counted m s → unsigned_abs z ≤ 10 ^ 15 → (r : ℕ) → r < s + 1 → IsEnding counted m r (pair_at (set pairs s pair) r)
ending_next counted m s pairs pair z room ended upper lower is small =
    each_written (λ (r : ℕ) (p : Pair). IsEnding counted m r p) pairs s pair no_pair room ended
    (record { value = pair_is pair (end_value counted m s) (end_value counted m s) (upper ∙ is) (lower ∙ is); small = subst (λ y. unsigned_abs y ≤ 10 ^ 15) is small })

pub endings_are : (counted : Counted) (m : ModelData) (pairs : List Pair) → length pairs ≡ states m.grid → ((s : ℕ) → s < states m.grid → IsEnding counted m s (pair_at pairs s))
    → (policy : Policy) → ArePairsOf (model_counting counted m) policy 0 pairs
endings_are Contacts m pairs long ended policy = record { count = long; each = λ s inside. (ended s inside).value }
endings_are Costs m pairs long ended policy = record { count = long; each = λ s inside. (ended s inside).value }

pub endings_within : (counted : Counted) (m : ModelData) (pairs : List Pair) → length pairs ≡ states m.grid → ((s : ℕ) → s < states m.grid → IsEnding counted m s (pair_at pairs s))
    → (side : Side) → AreWithin (10 ^ 15) side pairs
endings_within counted m pairs long ended Upper = record { bounded = λ s room. let e = ended s (omega (arith, room, long)) in subst (λ (p : Pair). unsigned_abs p.upper ≤ 10 ^ 15) (sym e.value) e.small }
endings_within counted m pairs long ended Lower = record { bounded = λ s room. let e = ended s (omega (arith, room, long)) in subst (λ (p : Pair). unsigned_abs p.lower ≤ 10 ^ 15) (sym e.value) e.small }

-- ---- with one second more

-- the values of a policy, by those of the layer below
one_more : (round : ℤ → ℤ → ℤ) (m : ModelData) (policy : Policy) (n k p : ℕ) (x : Vertex) → k ≡ suc n → policy_values round m policy k p x ≡ choice_value round m (policy_values round m policy n) p x (policy k p x)
one_more round m policy n k p x next = rw next refl

-- one side of a pair over the layer below, by values that the layer below has
over_values : (round : ℤ → ℤ → ℤ) (m : ModelData) (costs : List (List ℤ)) (policy : Policy) (n k : ℕ) (side : Side) (below : List Pair) (s : ℕ) (z : ℤ) → k ≡ suc n → AreSecondCosts m costs
    → ((r : ℕ) → r < states m.grid → value_at side below r ≡ policy_values round m policy n (state_present m.grid r) (state_vertex m.grid r)) → s < states m.grid → given_at m.grid policy k s < m.grid.advisories
    → z ≡ mean_value round m (layer_values side m.grid below) (state_vertex m.grid s) (given_at m.grid policy k s) +ℤ cost_at m.grid costs policy k s
    → z ≡ policy_values round m policy k (state_present m.grid s) (state_vertex m.grid s)
over_values round m costs policy n k side below s z next priced values inside known is =
    let g = m.grid in
    let p : ℕ = state_present g s in
    let x : Vertex = state_vertex g s in
    let a : ℕ = given_at g policy k s in
    let mean = mean_same round m (layer_values side g below) (policy_values round m policy n) x a (λ y at. layer_values-is g side below (policy_values round m policy n) values a y known at) in
    is
    ∙ ap (λ u. u +ℤ cost_at g costs policy k s) mean
    ∙ ap (λ u. mean_value round m (policy_values round m policy n) x a +ℤ u) (priced.each p a (state_present-below g s inside) known)
    ∙ sym (one_more round m policy n k p x next)

-- all pairs of a layer over the one below
module _ (m : ModelData) (costs : List (List ℤ)) (policy : Policy) (n k : ℕ) (below pairs : List Pair) (next : k ≡ suc n) (priced : AreSecondCosts m costs) (are : ArePairsOf m policy n below) where
  layer_is : length pairs ≡ states m.grid → ((s : ℕ) → s < states m.grid → given_at m.grid policy k s < m.grid.advisories)
      → ((s : ℕ) → s < states m.grid → (pair_at pairs s).upper ≡ mean_value up m (layer_values Upper m.grid below) (state_vertex m.grid s) (given_at m.grid policy k s) +ℤ cost_at m.grid costs policy k s)
      → ((s : ℕ) → s < states m.grid → (pair_at pairs s).lower ≡ mean_value down m (layer_values Lower m.grid below) (state_vertex m.grid s) (given_at m.grid policy k s) +ℤ cost_at m.grid costs policy k s)
      → ArePairsOf m policy k pairs
  layer_is long known upper lower = record {
    count = long;
    each = λ s inside.
        pair_is (pair_at pairs s) _ _
        (over_values up m costs policy n k Upper below s (pair_at pairs s).upper next priced (λ r here. ap (λ (p : Pair). p.upper) (are.each r here)) inside (known s inside) (upper s inside))
        (over_values down m costs policy n k Lower below s (pair_at pairs s).lower next priced (λ r here. ap (λ (p : Pair). p.lower) (are.each r here)) inside (known s inside) (lower s inside));
  }

-- over the means of the model itself, which are those of the model that counts contact
pub next_layer : (counted : Counted) (m : ModelData) (costs : List (List ℤ)) (policy : Policy) (n : ℕ) (below pairs : List Pair) → AreSecondCosts (model_counting counted m) costs → ArePairsOf (model_counting counted m) policy n below
    → length pairs ≡ states m.grid → AreOver m costs policy (n + 1) below (columns m.grid) pairs → ArePairsOf (model_counting counted m) policy (n + 1) pairs
next_layer Contacts m costs policy n below pairs priced are long over =
    let is = λ (s : ℕ) (inside : s < states m.grid). over.each s inside (column_below m.grid s inside) in
    layer_is (counting_contact m) costs policy n (n + 1) below pairs (omega arith) priced are long (λ s inside. (is s inside).known) (λ s inside. (is s inside).upper) (λ s inside. (is s inside).lower)
next_layer Costs m costs policy n below pairs priced are long over =
    let is = λ (s : ℕ) (inside : s < states m.grid). over.each s inside (column_below m.grid s inside) in
    layer_is m costs policy n (n + 1) below pairs (omega arith) priced are long (λ s inside. (is s inside).known) (λ s inside. (is s inside).upper) (λ s inside. (is s inside).lower)

-- there is a pair for each state
pub pair_count : (counted : Counted) (m : ModelData) (policy : Policy) (n : ℕ) (pairs : List Pair) → ArePairsOf (model_counting counted m) policy n pairs → length pairs ≡ states m.grid
pair_count Contacts m policy n pairs are = are.count
pair_count Costs m policy n pairs are = are.count

-- ---- what a policy gives

-- in one layer more
pub known_next : (m : ModelData) (costs : List (List ℤ)) (policy : Policy) (n : ℕ) (below pairs : List Pair) → AreOver m costs policy (n + 1) below (columns m.grid) pairs
    → ((k s : ℕ) → k < n → s < states m.grid → given_at m.grid policy (k + 1) s < m.grid.advisories) → (k s : ℕ) → k < n + 1 → s < states m.grid → given_at m.grid policy (k + 1) s < m.grid.advisories
known_next m costs policy n below pairs over so_far k s earlier inside = ⊎_elim
    (λ (l : k < n). so_far k s l inside)
    (λ (now : k ≡ n). subst (λ (j : ℕ). given_at m.grid policy (j + 1) s < m.grid.advisories) (sym now) (over.each s inside (column_below m.grid s inside)).known)
    (below_or_at k n earlier)

-- what it gives in the states of the layers up to the horizon are advisories, so it says advisories
pub says_advisories : (m : ModelData) (policy : Policy) → ((k s : ℕ) → k < m.grid.horizon → s < states m.grid → given_at m.grid policy (k + 1) s < m.grid.advisories) → SaysAdvisories m policy
says_advisories m policy known = record {
  known = λ n p x at.
      let g = m.grid in
      let v : ℕ = vertex_number g x in
      let s : ℕ = state_number g p v in
      let below = (vertices-one_to_one g).below x at.vertex in
      let given : policy (n + 1) (state_present g s) (state_vertex g s) ≡ policy (suc n) p x =
      ap (λ (k : ℕ). policy k (state_present g s) (state_vertex g s)) (omega arith) ∙ ap (λ (q : ℕ). policy (suc n) q (state_vertex g s)) (state_present-state_number g p v below)
      ∙ ap (λ (y : Vertex). policy (suc n) p y) (state_vertex-state_number g p x at.vertex) in
      omega (arith, known n s (omega (arith, at.seconds)) (state_number-below g p x at.present at.vertex), given);
}
