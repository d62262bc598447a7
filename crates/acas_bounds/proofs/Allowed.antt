-- What is in a list of choices, and at what cost.
use Rattle.std.specs.List.{list_any}
use Rattle.std.proofs.Common.{◌≡◌, ℕ, ◌<◌, ℤ, Bool, true, false, ◌||◌, cond, nat_eq, Option, Some, None, ◌↔◌, List, [], ◌∷◌, length, get_or, Contains, ⊎_elim, refl, subst, arith}
use Rattle.std.proofs.lemmas.Bool.{cases_Bool, false≢true}
use Rattle.std.proofs.lemmas.List.Recursion.{found_nowhere, or_at}
use Rattle.acas_spec.specs.Model.{ModelData, choices_at}
use Rattle.acas_spec.specs.declared.parts.Choice.{Choice}
use Rattle.acas_process.specs.Cost.{MayChoose, advisories_of, cost_among}
use Rattle.acas_process.proofs.ModelLaws.{place_of, test_same}
use Rattle.acas_process.proofs.Least.{Contains-cons, Contains-first}
use Rattle.acas_means.specs.Choices.{no_choice}
use Rattle.acas_bounds.specs.Means.{allowed_cost}
use Rattle.acas_bounds.specs.Sound.{is_allowed}

same_number : (a b : ℕ) → nat_eq a b ≡ true → a ≡ b
same_number a b h = grind arith

listed_by : (cs : List Choice) (a : ℕ) → list_any (λ c. nat_eq c.advisory a) cs ≡ true → Contains (advisories_of cs) a
listed_by [] a h = absurd (false≢true h)
listed_by (c ∷ rest) a h =
    ⊎_elim (λ (e : nat_eq c.advisory a ≡ true). subst (λ (x : ℕ). Contains (advisories_of (c ∷ rest)) x) (same_number c.advisory a e) (Contains-first c.advisory (advisories_of rest)))
    (λ (e : nat_eq c.advisory a ≡ false). Contains-cons c.advisory (advisories_of rest) a (listed_by rest a (rw e at h)))
    (cases_Bool (nat_eq c.advisory a))

any_listed : (cs : List Choice) (a : ℕ) → Contains (advisories_of cs) a → list_any (λ c. nat_eq c.advisory a) cs ≡ true
any_listed cs a h =
    let at = place_of cs a no_choice h in
    or_at (list_any (λ (c : Choice). nat_eq c.advisory a)) (λ (c : Choice). nat_eq c.advisory a) refl (λ _ _. refl) cs at.place no_choice at.within (test_same (get_or cs at.place no_choice).advisory a at.is)

-- the test finds what may be chosen
pub is_allowed-is : (m : ModelData) (p a : ℕ) → (is_allowed m p a ≡ true) ↔ MayChoose m p a
is_allowed-is m p a = (listed_by (choices_at m p) a, any_listed (choices_at m p) a)

-- ---- the cost of what is in the list

abbrev cost_in : ℕ → List Choice → Option ℤ
cost_in a cs = cond (list_any (λ c. nat_eq c.advisory a) cs) (Some (cost_among cs a)) None

first_or_later : (here later : Bool) (x y : ℤ) → cond (here || later) (Some (cond here x y)) None ≡ cond here (Some x) (cond later (Some y) None)
first_or_later true later x y = refl
first_or_later false later x y = refl

cost_in-cons : (a : ℕ) (c : Choice) (rest : List Choice) → cost_in a (c ∷ rest) ≡ cond (nat_eq c.advisory a) (Some c.cost) (cost_in a rest)
cost_in-cons a c rest = first_or_later (nat_eq c.advisory a) (list_any (λ d. nat_eq d.advisory a) rest) c.cost (cost_among rest a)

pub allowed_cost-none : (m : ModelData) (p a : ℕ) → ((k : ℕ) → k < length (choices_at m p) → nat_eq (get_or (choices_at m p) k no_choice).advisory a ≡ false) → allowed_cost m p a ≡ None
allowed_cost-none m p a nowhere = found_nowhere (cost_in a) (λ (c : Choice). nat_eq c.advisory a) (λ (c : Choice). Some c.cost) None refl (cost_in-cons a) (choices_at m p) no_choice nowhere
