-- What a model within its limits says of its weights and of its choices.
use Rattle.std.proofs.Common.{◌≡◌, ◌≢◌, ℕ, zero, suc, ◌<◌, ◌≤◌, pos, ◌≤ℤ◌, List, [], ◌∷◌, length, get_or, sum_by, Contains, true, false, nat_eq, refl, ap, sym, subst, ◌∙◌, arith}
use Rattle.std.proofs.lemmas.Int.{ints}
use Rattle.std.proofs.lemmas.List.Sums.{sum_by-cons}
use Rattle.acas_units.specs.declared.limits.TheConstants.{LEAST_COST, GREATEST_COST}
use Rattle.acas_spec.specs.Axis.{IsBetween}
use Rattle.acas_spec.specs.Limits.{IsModel, AreDistinct}
use Rattle.acas_spec.specs.Model.{ModelData, choices_at, total_weight, weight_of}
use Rattle.acas_spec.specs.declared.parts.Choice.{Choice}
use Rattle.acas_spec.specs.declared.parts.SigmaPoint.{SigmaPoint}
use Rattle.acas_process.specs.Cost.{IsKnownChoice, MayChoose, advisories_of, cost_among, cost_of}

-- ---- weights

first_weighs : (sigmas : List SigmaPoint) (d : SigmaPoint) → 1 ≤ length sigmas → pos 1 ≤ℤ (get_or sigmas 0 d).weight → 0 < sum_by weight_of sigmas
first_weighs [] d h k = absurd (omega arith)
first_weighs (p ∷ sigmas) d h k = let e : 1 ≤ weight_of p = omega (arith, ints) in omega (arith, sum_by-cons weight_of p sigmas)

pub total_weight_pos : (m : ModelData) → IsModel m → 0 < total_weight m
total_weight_pos m v = first_weighs m.sigmas _ v.some_sigmas (v.sigmas 0 (omega (arith, v.some_sigmas))).weight.low

-- ---- choices

pub test_same : (a b : ℕ) → a ≡ b → nat_eq a b ≡ true
test_same a b e = grind arith

pub test_apart : (a b : ℕ) → a ≢ b → nat_eq a b ≡ false
test_apart a b h = grind arith

length_names : (cs : List Choice) → length (advisories_of cs) ≡ length cs
length_names [] = refl
length_names (c ∷ rest) = ap suc (length_names rest)

name_at : (cs : List Choice) (k a : ℕ) (d : Choice) → k < length cs → get_or (advisories_of cs) k a ≡ (get_or cs k d).advisory
name_at [] k a d h = absurd (omega arith)
name_at (c ∷ rest) zero a d h = refl
name_at (c ∷ rest) (suc k) a d h = name_at rest k a d (omega arith)

-- an advisory of a list stands at a place of it
pub record IsAt (cs : List Choice) (a : ℕ) (d : Choice) : Type 0 where
  pub place : ℕ
  pub within : place < length cs
  pub is : (get_or cs place d).advisory ≡ a

pub place_of : (cs : List Choice) (a : ℕ) (d : Choice) → Contains (advisories_of cs) a → IsAt cs a d
place_of cs a d (k, h, e) = let w : k < length cs = omega (arith, length_names cs) in record { place = k; within = w; is = sym (name_at cs k a d w) ∙ e }

-- the advisory of a choice stands among those of its list
pub listed : (cs : List Choice) (k : ℕ) (d : Choice) → k < length cs → Contains (advisories_of cs) (get_or cs k d).advisory
listed cs k d h = (k, omega (arith, length_names cs), name_at cs k (get_or cs k d).advisory d h)

own_cost : (cs : List Choice) (k : ℕ) (d : Choice) → AreDistinct 0 (advisories_of cs) → k < length cs → cost_among cs (get_or cs k d).advisory ≡ (get_or cs k d).cost
own_cost [] k d apart h = absurd (omega arith)
own_cost (c ∷ rest) zero d apart h = rw (test_same c.advisory c.advisory refl) refl
own_cost (c ∷ rest) (suc k) d apart h =
    let within : k < length rest = omega arith in
    let other : c.advisory ≢ (get_or rest k d).advisory = subst (λ (z : ℕ). c.advisory ≢ z) (name_at rest k 0 d within) (apart.apart 0 (suc k) (omega arith) (omega (arith, length_names rest))) in
    rw (test_apart c.advisory (get_or rest k d).advisory other)
    (own_cost rest k d (record { apart = λ i j l w. apart.apart (suc i) (suc j) (omega arith) (omega arith) }) within)

-- each choice has its own cost
pub cost_is_own : (m : ModelData) (p place : ℕ) (d : Choice) → IsModel m → p < m.grid.advisories → place < length (choices_at m p) →
    cost_of m p (get_or (choices_at m p) place d).advisory ≡ (get_or (choices_at m p) place d).cost
cost_is_own m p place d v known within = own_cost (choices_at m p) place d (v.choices p known).distinct within

-- what may be chosen is an advisory of the model, at a cost within its limits
pub record IsChosen (m : ModelData) (p a : ℕ) : Type 0 where
  pub inside : a < m.grid.advisories
  pub limits : IsBetween LEAST_COST GREATEST_COST (cost_of m p a)

pub is_chosen : (m : ModelData) (p a : ℕ) → IsModel m → p < m.grid.advisories → MayChoose m p a → IsChosen m p a
is_chosen m p a v known follows =
    let at = place_of (choices_at m p) a (record { advisory = 0; cost = pos 0 }) follows in
    let choice = (v.choices p known).each at.place at.within in
    let cost = cost_is_own m p at.place (record { advisory = 0; cost = pos 0 }) v known at.within in
    subst (λ (z : ℕ). IsChosen m p z) at.is (record { inside = choice.advisory; limits = subst (λ z. IsBetween LEAST_COST GREATEST_COST z) (sym cost) choice.cost })

pub known_choice : (m : ModelData) (p i : ℕ) (d : Choice) → IsModel m → p < m.grid.advisories → i < length (choices_at m p) → IsKnownChoice m p (get_or (choices_at m p) i d)
known_choice m p i d v known within =
    let own = cost_is_own m p i d v known within in
    let chosen = is_chosen m p (get_or (choices_at m p) i d).advisory v known (listed (choices_at m p) i d within) in
    record { inside = chosen.inside; cost = own; limits = subst (λ z. IsBetween LEAST_COST GREATEST_COST z) own chosen.limits }
