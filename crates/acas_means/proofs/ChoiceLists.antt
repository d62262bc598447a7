-- A present advisory has no more choices than a model may have advisories.
use Rattle.std.specs.List.{IsDistinct, list_any}
use Rattle.std.proofs.Common.{◌≡◌, ℕ, suc, ◌<◌, ◌≤◌, List, [], ◌∷◌, length, get_or, true, false, nat_eq, ⊎_elim, sym, subst, ◌∙◌, arith}
use Rattle.std.proofs.lemmas.Bool.{cases_Bool, eqb-true}
use Rattle.std.proofs.lemmas.Grind.{get_or_default_zero}
use Rattle.std.proofs.lemmas.List.{length-map}
use Rattle.std.proofs.lemmas.Map.Keys.{IsDistinct-from_apart}
use Rattle.std.proofs.lemmas.Map.Steps.{length-le_from_distinct_below}
use Rattle.acas_spec.specs.Limits.{AreDistinct, IsModel}
use Rattle.acas_spec.specs.Model.{ModelData, choices_at}
use Rattle.acas_spec.specs.declared.parts.Choice.{Choice}
use Rattle.acas_process.specs.Cost.{advisories_of}
use Rattle.acas_process.proofs.ModelLaws.{is_chosen, test_apart}

-- numbers that are all below n, by their places and by value
member-below : (xs : List ℕ) (n : ℕ) → ((i : ℕ) → i < length xs → get_or xs i 0 < n) → (q : ℕ) → list_any (nat_eq q) xs ≡ true → q < n
member-below [] n h q e = absurd cc
member-below (x ∷ xs) n h q e =
    ⊎_elim
    (λ (same : nat_eq q x ≡ true). subst (λ (z : ℕ). z < n) (sym (eqb-true q x same)) (h 0 (omega arith)))
    (λ (apart : nat_eq q x ≡ false). member-below xs n (λ i l. h (suc i) (omega arith)) q (rw apart at e))
    (cases_Bool (nat_eq q x))

apart-distinct : (xs : List ℕ) → AreDistinct 0 xs → IsDistinct nat_eq xs
apart-distinct xs apart =
    IsDistinct-from_apart nat_eq xs
    (λ i j d l h. test_apart (get_or xs i d) (get_or xs j d)
    (λ same. apart.apart i j l h (sym (get_or_default_zero xs i d (omega arith)) ∙ same ∙ get_or_default_zero xs j d h)))

-- a list has at most as many choices as there are advisories
pub choices-few : (m : ModelData) (p : ℕ) → IsModel m → p < m.grid.advisories → length (choices_at m p) ≤ 16
choices-few m p valid known =
    let cs : List Choice = choices_at m p in
    let each : (i : ℕ) → i < length (advisories_of (choices_at m p)) → get_or (advisories_of (choices_at m p)) i 0 < m.grid.advisories =
    λ i h. (is_chosen m p (get_or (advisories_of (choices_at m p)) i 0) valid known (i, h, get_or_default_zero (advisories_of (choices_at m p)) i (get_or (advisories_of (choices_at m p)) i 0) h)).inside in
    let few = length-le_from_distinct_below (advisories_of (choices_at m p)) m.grid.advisories (apart-distinct (advisories_of (choices_at m p)) (valid.choices p known).distinct) (member-below (advisories_of (choices_at m p)) m.grid.advisories each) in
    omega (arith, length-map (choices_at m p) (λ c. c.advisory), valid.grid.few_advisories)
