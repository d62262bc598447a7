-- The first fault of many, or none.
use Rattle.std.proofs.Common.{◌≡◌, ℕ, zero, suc, ◌<◌, List, [], ◌∷◌, Option, None, Some, refl, ◌∙◌, ap, subst, inl, inr, arith}
use Rattle.std.proofs.lemmas.Bool.{cases_lt}
use Rattle.std.specs.Option.{option_map}
use Rattle.acas_table_text.specs.Faults.{first, first_below}

pub first_none : {A : Type 0} (o : Option A) (rest : List (Option A)) → first (o ∷ rest) ≡ None → (o ≡ None) × (first rest ≡ None)
first_none None rest e = (refl, e)
first_none (Some x) rest e = absurd (cc e)

pub first_one : {A : Type 0} (o : Option A) → first (o ∷ []) ≡ o
first_one None = refl
first_one (Some x) = refl

pub first-cons : {A : Type 0} (o : Option A) (rest : List (Option A)) → o ≡ None → first rest ≡ None → first (o ∷ rest) ≡ None
first-cons {A = A} o rest here after = ap (λ (x : Option A). first (x ∷ rest)) here ∙ after

pub each_none : {A : Type 0} (f : ℕ → Option A) (n i : ℕ) → first_below f n ≡ None → i < n → f i ≡ None
each_none f zero i none within = absurd (omega (arith, within))
each_none {A = A} f (suc n) i none within =
    let before = first_none (first_below f n) (f n ∷ []) none in
    elim (cases_lt i n) [
      | inl lt ↦ each_none f n i before.0 lt
      | inr le ↦ let last : n ≡ i = omega (arith, within) in subst (λ (k : ℕ). f k ≡ None) last (first_none (f n) [] before.1).0
    ]

pub all_none : {A : Type 0} (f : ℕ → Option A) (n : ℕ) → ((i : ℕ) → i < n → f i ≡ None) → first_below f n ≡ None
all_none f zero none = refl
all_none f (suc n) none = first-cons (first_below f n) (f n ∷ []) (all_none f n (λ i within. none i (omega arith))) (first-cons (f n) [] (none n (omega arith)) refl)

pub option_map-none : {A B : Type 0} (f : A → B) (o : Option A) → option_map f o ≡ None → o ≡ None
option_map-none f None e = refl
option_map-none f (Some x) e = absurd (cc e)

pub none-option_map : {A B : Type 0} (f : A → B) (o : Option A) → o ≡ None → option_map f o ≡ None
none-option_map f o e = ap (option_map f) e
