-- A chance of contact is an expected cost in the model that counts contact: so it has the same bounds, which are from 0 to a million.
use Rattle.std.proofs.Common.{◌≡◌, ℕ, zero, suc, ◌^◌, ℤ, pos, ◌+ℤ◌, ◌*ℤ◌, ◌≤ℤ◌, List, [], ◌∷◌, map, Bool, true, false, cond, nat_eq, refl, ap, sym, subst, inl, inr, ◌∙◌, arith}
use Rattle.std.proofs.lemmas.Int.{ints}
use Rattle.std.proofs.lemmas.List.{length-map}
use Rattle.std.proofs.Math.ListN.{get_or-map}
use Rattle.std.proofs.Math.Nat.{pow-suc, pow-zero}
use Rattle.acas_spec.specs.Axis.{IsBetween}
use Rattle.acas_spec.specs.Limits.{AreDistinct, IsChoice, IsChoiceList, IsModel}
use Rattle.acas_spec.specs.Model.{ModelData, choices_at}
use Rattle.acas_spec.specs.Table.{Policy}
use Rattle.acas_spec.specs.declared.parts.Choice.{Choice}
use Rattle.acas_spec.specs.declared.place.Vertex.{Vertex}
use Rattle.acas_grid.specs.Grid.{IsVertex}
use Rattle.acas_frac.specs.Rounding.{IsRounding, down, up}
use Rattle.acas_frac.proofs.SignedProducts.{mul_comm_ℤ}
use Rattle.acas_policies.specs.Allowed.{SaysAdvisories}
use Rattle.acas_process.specs.Values.{millionths}
use Rattle.acas_process.specs.Cost.{IsEntry, advisories_of, cost_among, cost_of, expected_cost, transition_total, transition_weight}
use Rattle.acas_policies.specs.Policies.{AreChanceBounds, contact_chance, counting_contact, in_contact, policy_values, without_cost}
use Rattle.acas_process.specs.Step.{over_vertices}
use Rattle.acas_process.proofs.MeanLaws.{spread, spread-le, transitions_spread, transitions_sum}
use Rattle.acas_policies.proofs.PolicyLaws.{SayTheSame, policy_bounds, same_cost}
use Rattle.acas_process.proofs.SizeLaws.{mean_between}
use Rattle.acas_process.proofs.VertexLaws.{over_vertices-mul, over_vertices-same, over_vertices-zero}

-- ---- the model that counts contact

cond-same : (b : Bool) (z : ℤ) → z ≡ pos 0 → cond b (pos 0) z ≡ pos 0
cond-same true z e = refl
cond-same false z e = e

free_among : (cs : List Choice) (a : ℕ) → cost_among (map without_cost cs) a ≡ pos 0
free_among [] a = refl
free_among (c ∷ rest) a = cond-same (nat_eq c.advisory a) (cost_among (map without_cost rest) a) (free_among rest a)

counted_choices : (m : ModelData) (p : ℕ) → choices_at (counting_contact m) p ≡ map without_cost (choices_at m p)
counted_choices m p = get_or-map (λ choices. map without_cost choices) m.choices p []

-- a second costs nothing in it
pub seconds_are_free : (m : ModelData) (p a : ℕ) → cost_of (counting_contact m) p a ≡ pos 0
seconds_are_free m p a = ap (λ cs. cost_among cs a) (counted_choices m p) ∙ free_among (choices_at m p) a

same_advisories : (cs : List Choice) → advisories_of cs ≡ advisories_of (map without_cost cs)
same_advisories [] = refl
same_advisories (c ∷ rest) = ap (λ names. c.advisory ∷ names) (same_advisories rest)

free_choices : (count : ℕ) (cs : List Choice) → IsChoiceList count cs → IsChoiceList count (map without_cost cs)
free_choices count cs v = record {
  some = omega (arith, v.some, length-map cs without_cost);
  each = λ place w.
      let d : Choice = record { advisory = 0; cost = pos 0 } in
      subst (λ c. IsChoice count c) (sym (get_or-map without_cost cs place d))
      (record { advisory = (v.each place (omega (arith, w, length-map cs without_cost))).advisory; cost = record { low = omega (arith, ints); high = omega (arith, ints) } });
  distinct = subst (λ names. AreDistinct 0 names) (same_advisories cs) v.distinct;
}

pub counting_is_model : (m : ModelData) → IsModel m → IsModel (counting_contact m)
counting_is_model m v = record {
  grid = v.grid;
  advisory_count = v.advisory_count;
  advisories = v.advisories;
  names = v.names;
  choice_count = length-map m.choices (λ choices. map without_cost choices) ∙ v.choice_count;
  choices = λ p known. subst (λ cs. IsChoiceList m.grid.advisories cs) (sym (counted_choices m p)) (free_choices m.grid.advisories (choices_at m p) (v.choices p known));
  some_sigmas = v.some_sigmas;
  few_sigmas = v.few_sigmas;
  sigmas = v.sigmas;
  weights = v.weights;
  some_pull = v.some_pull;
  pull_within = v.pull_within;
  limit = v.limit;
  delay = v.delay;
  some_radius = v.some_radius;
  radius = v.radius;
  some_half = v.some_half;
  half = v.half;
  some_closing = v.some_closing;
  closing = v.closing;
  greatest_closing = v.greatest_closing;
  contact = record { low = omega (arith, ints); high = omega (arith, ints) };
  window = v.window;
}

-- ---- a chance is a cost in it

nothing_added : (k : ℕ) (cost z : ℤ) → cost ≡ pos 0 → z ≡ pos k *ℤ cost +ℤ z
nothing_added k cost z e = rw e (omega (arith, ints))

pub chance_is_cost : (m : ModelData) (policy : Policy) (n p : ℕ) (x : Vertex) → contact_chance m policy n p x ≡ expected_cost (counting_contact m) policy n p x
chance_is_cost m policy zero p x = refl
chance_is_cost m policy (suc n) p x =
    let a : ℕ = policy (suc n) p x in
    let later : ℤ = over_vertices m.grid (λ y. transition_weight m x a y *ℤ expected_cost (counting_contact m) policy n a y) in
    over_vertices-same m.grid _ _ (λ y _. ap (λ z. transition_weight m x a y *ℤ z) (chance_is_cost m policy n a y))
    ∙ nothing_added (transition_total m ^ suc n) (cost_of (counting_contact m) p a) later (seconds_are_free m p a)

-- ---- it is from 0 to 1

contact-between : (b : Bool) → IsBetween (pos 0) (pos 1) (cond b (pos 1) (pos 0))
contact-between true = record { low = omega (arith, ints); high = omega (arith, ints) }
contact-between false = record { low = omega (arith, ints); high = omega (arith, ints) }

transitions-le : (m : ModelData) (x : Vertex) (a : ℕ) (f g : Vertex → ℤ) → ((y : Vertex) → IsVertex m.grid y → f y ≤ℤ g y) →
    over_vertices m.grid (λ y. transition_weight m x a y *ℤ f y) ≤ℤ over_vertices m.grid (λ y. transition_weight m x a y *ℤ g y)
transitions-le m x a f g h =
    subst (λ z. z ≤ℤ over_vertices m.grid (λ y. transition_weight m x a y *ℤ g y)) (sym (transitions_spread m x a f))
    (subst (λ z. spread m x a f ≤ℤ z) (sym (transitions_spread m x a g)) (spread-le m x a f g h))

pub chance-pos : (m : ModelData) (policy : Policy) (n p : ℕ) (x : Vertex) → pos 0 ≤ℤ contact_chance m policy n p x
chance-pos m policy zero p x = (contact-between (in_contact m x)).low
chance-pos m policy (suc n) p x =
    let a : ℕ = policy (suc n) p x in
    let none : over_vertices m.grid (λ y. transition_weight m x a y *ℤ pos 0) ≡ pos 0 =
    over_vertices-same m.grid (λ y. transition_weight m x a y *ℤ pos 0) (λ y. pos 0) (λ y _. omega (arith, ints)) ∙ over_vertices-zero m.grid in
    subst (λ z. z ≤ℤ contact_chance m policy (suc n) p x) none (transitions-le m x a (λ y. pos 0) (λ y. contact_chance m policy n a y) (λ y _. chance-pos m policy n a y))

pub chance_at_most : (m : ModelData) (policy : Policy) (n p : ℕ) (x : Vertex) → IsModel m → contact_chance m policy n p x ≤ℤ pos (transition_total m ^ n)
chance_at_most m policy zero p x v = subst (λ (k : ℕ). contact_chance m policy 0 p x ≤ℤ pos k) (sym (pow-zero (transition_total m))) (contact-between (in_contact m x)).high
chance_at_most m policy (suc n) p x v =
    let a : ℕ = policy (suc n) p x in
    let power : ℕ = transition_total m ^ n in
    let all : over_vertices m.grid (λ y. transition_weight m x a y *ℤ pos power) ≡ pos (transition_total m ^ suc n) =
    over_vertices-same m.grid _ _ (λ y _. mul_comm_ℤ (transition_weight m x a y) (pos power))
    ∙ over_vertices-mul m.grid (pos power) (transition_weight m x a)
    ∙ ap (λ z. pos power *ℤ z) (transitions_sum m x a v)
    ∙ ap pos (sym (pow-suc (transition_total m) n)) in
    subst (λ z. contact_chance m policy (suc n) p x ≤ℤ z) all (transitions-le m x a (λ y. contact_chance m policy n a y) (λ y. pos power) (λ y _. chance_at_most m policy n a y v))

-- ---- its bounds

counted_entry : (m : ModelData) (n p : ℕ) (x : Vertex) → IsEntry m n p x → IsEntry (counting_contact m) n p x
counted_entry m n p x at = record { seconds = at.seconds; present = at.present; vertex = at.vertex }

entry_counted : (m : ModelData) (n p : ℕ) (x : Vertex) → IsEntry (counting_contact m) n p x → IsEntry m n p x
entry_counted m n p x at = record { seconds = at.seconds; present = at.present; vertex = at.vertex }

says_counted : (m : ModelData) (policy : Policy) → SaysAdvisories m policy → SaysAdvisories (counting_contact m) policy
says_counted m policy says = record { known = λ n p x at. says.known n p x (entry_counted m (suc n) p x at) }

in_millionths : (z : ℤ) → IsBetween (pos 0) (pos 1) z → IsBetween (pos 0) (pos 1_000_000) (millionths z)
in_millionths z h = record { low = omega (arith, ints, h.low, h.high); high = omega (arith, ints, h.low, h.high) }

values_between : (round : ℤ → ℤ → ℤ) → IsRounding round → (m : ModelData) (policy : Policy) → IsModel m → (n p : ℕ) (x : Vertex) →
    IsBetween (pos 0) (pos 1_000_000) (policy_values round (counting_contact m) policy n p x)
values_between round way m policy v zero p x = in_millionths _ (contact-between (in_contact m x))
values_between round way m policy v (suc n) p x =
    let a : ℕ = policy (suc n) p x in
    let free = seconds_are_free m p a in
    let mean = mean_between round way (counting_contact m) (policy_values round (counting_contact m) policy n) x a (pos 0) (pos 1_000_000) (counting_is_model m v) (λ y _. values_between round way m policy v n a y) in
    record { low = omega (arith, ints, free, mean.low); high = omega (arith, ints, free, mean.high) }

pub chance_bounds : (m : ModelData) (policy : Policy) (n p : ℕ) (x : Vertex) → IsModel m → SaysAdvisories m policy → IsEntry m n p x →
    AreChanceBounds m n (contact_chance m policy n p x) (policy_values down (counting_contact m) policy n p x) (policy_values up (counting_contact m) policy n p x)
chance_bounds m policy n p x v says at =
    let costs = policy_bounds (counting_contact m) policy n p x (counting_is_model m v) (says_counted m policy says) (counted_entry m n p x at) in
    let same = sym (chance_is_cost m policy n p x) in
    record {
      bounds = record {
        below = subst (λ z. (pos (transition_total m ^ n) *ℤ policy_values down (counting_contact m) policy n p x) ≤ℤ millionths z) same costs.below;
        above = subst (λ z. millionths z ≤ℤ (pos (transition_total m ^ n) *ℤ policy_values up (counting_contact m) policy n p x)) same costs.above;
        tight = costs.tight;
      };
      least = (values_between down (inl refl) m policy v n p x).low;
      greatest = (values_between up (inr refl) m policy v n p x).high;
    }

pub same_chance : (m : ModelData) (one other : Policy) (n p : ℕ) (x : Vertex) → SaysAdvisories m one → SayTheSame m one other → IsEntry m n p x → contact_chance m one n p x ≡ contact_chance m other n p x
same_chance m one other n p x says same at =
    chance_is_cost m one n p x
    ∙ same_cost (counting_contact m) one other n p x (says_counted m one says) (λ k q y there some. same k q y (entry_counted m k q y there) some) (counted_entry m n p x at)
    ∙ sym (chance_is_cost m other n p x)
