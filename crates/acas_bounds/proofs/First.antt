-- The fault of an entry is the first part that fails.
use Rattle.std.proofs.Common.{◌≡◌, ◌↔◌, ◌⊎◌, inl, inr, ⊎_elim, ℕ, zero, suc, ℤ, ◌≤ℤ◌, ◌<ℤ◌, Bool, true, false, cond, Option, Some, None, int_lt, refl, sym, subst, ◌∙◌, arith}
use Rattle.std.proofs.lemmas.Bool.{cases_Bool, false≢true}
use Rattle.std.proofs.lemmas.Int.{ints}
use Rattle.acas_spec.specs.Model.{ModelData}
use Rattle.acas_spec.specs.Table.{Table}
use Rattle.acas_spec.specs.declared.place.Vertex.{Vertex}
use Rattle.acas_bounds.specs.First.{AdvicePasses, IsFirstFault}
use Rattle.acas_bounds.specs.Sound.{allowed_lower, bound_fault, is_allowed, needed_upper, values_fault}
use Rattle.acas_spec.specs.declared.fault.BoundFault.{BoundFault}
use Rattle.acas_spec.specs.declared.fault.BoundFault.TheVariants.{AdviceNotAllowed, UpperTooLow, LowerTooHigh}
use Rattle.acas_bounds.proofs.Allowed.{is_allowed-is}
use Rattle.acas_bounds.proofs.Sound.{le-of_lt, lt-false, lt-of_lt, lt-true}

-- ---- the fault of two values

-- what is so of two values whose fault is known
abbrev ValuesFail : ℤ → ℤ → ℤ → ℤ → BoundFault → Type 0
ValuesFail upper needed lower allowed AdviceNotAllowed = ⊥
ValuesFail upper needed lower allowed (UpperTooLow stands least) = (stands ≡ upper) × (least ≡ needed) × (stands <ℤ least)
ValuesFail upper needed lower allowed (LowerTooHigh stands most) = (needed ≤ℤ upper) × (stands ≡ lower) × (most ≡ allowed) × (most <ℤ stands)

first_of_two : (low high : Bool) (a b fault : BoundFault) → cond low (Some a) (cond high (Some b) None) ≡ Some fault → ((low ≡ true) × (a ≡ fault)) ⊎ ((low ≡ false) × (high ≡ true) × (b ≡ fault))
first_of_two true high a b fault h = inl (refl, cc)
first_of_two false true a b fault h = inr (refl, refl, cc)
first_of_two false false a b fault h = cc

values_fail : (upper needed lower allowed : ℤ) (fault : BoundFault) → values_fault upper needed lower allowed ≡ Some fault → ValuesFail upper needed lower allowed fault
values_fail upper needed lower allowed fault h =
    ⊎_elim
    (λ (first : (int_lt upper needed ≡ true) × (UpperTooLow upper needed ≡ fault)). subst (λ (f : BoundFault). ValuesFail upper needed lower allowed f) first.1 (refl, refl, lt-of_lt upper needed first.0))
    (λ (second : (int_lt upper needed ≡ false) × (int_lt allowed lower ≡ true) × (LowerTooHigh lower allowed ≡ fault)).
    subst (λ (f : BoundFault). ValuesFail upper needed lower allowed f) second.2 (le-of_lt upper needed second.0, refl, refl, lt-of_lt allowed lower second.1))
    (first_of_two (int_lt upper needed) (int_lt allowed lower) (UpperTooLow upper needed) (LowerTooHigh lower allowed) fault h)

fault_of_values : (upper needed lower allowed : ℤ) (fault : BoundFault) → ValuesFail upper needed lower allowed fault → values_fault upper needed lower allowed ≡ Some fault
fault_of_values upper needed lower allowed AdviceNotAllowed fails = absurd fails
fault_of_values upper needed lower allowed (UpperTooLow stands least) fails =
    let below : upper <ℤ needed = omega (arith, ints, fails.0, fails.1, fails.2) in
    rw (lt-true upper needed below, fails.0, fails.1) refl
fault_of_values upper needed lower allowed (LowerTooHigh stands most) fails =
    let above : allowed <ℤ lower = omega (arith, ints, fails.1, fails.2, fails.3) in
    rw (lt-false upper needed fails.0, lt-true allowed lower above, fails.1, fails.2) refl

-- ---- the fault of an entry

first_of_values : (m : ModelData) (t : Table) (n p : ℕ) (x : Vertex) (fault : BoundFault) → AdvicePasses m t n p x
    → ValuesFail (t.upper n p x) (needed_upper m t n p x) (t.lower n p x) (allowed_lower m t n p x) fault → IsFirstFault m t n p x fault
first_of_values m t n p x AdviceNotAllowed passes fails = absurd fails
first_of_values m t n p x (UpperTooLow stands needed) passes fails = record { advice = passes; stands_is = fails.0; needed_is = fails.1; below = fails.2 }
first_of_values m t n p x (LowerTooHigh stands allowed) passes fails = record { advice = passes; upper = fails.0; stands_is = fails.1; allowed_is = fails.2; above = fails.3 }

-- the first fault is of the advice, or the advice passes
values_of_first : (m : ModelData) (t : Table) (n p : ℕ) (x : Vertex) (fault : BoundFault) → IsFirstFault m t n p x fault
    → (¬ (AdvicePasses m t n p x) × (fault ≡ AdviceNotAllowed)) ⊎ (AdvicePasses m t n p x × ValuesFail (t.upper n p x) (needed_upper m t n p x) (t.lower n p x) (allowed_lower m t n p x) fault)
values_of_first m t n p x AdviceNotAllowed first = inl (first, refl)
values_of_first m t n p x (UpperTooLow stands needed) first = inr (first.advice, (first.stands_is, first.needed_is, first.below))
values_of_first m t n p x (LowerTooHigh stands allowed) first = inr (first.advice, (first.upper, first.stands_is, first.allowed_is, first.above))

-- a choice between a fault of the advice and the rest
of_choice : (ok : Bool) (rest : Option BoundFault) (fault : BoundFault) → cond ok rest (Some AdviceNotAllowed) ≡ Some fault → ((ok ≡ true) × (rest ≡ Some fault)) ⊎ ((ok ≡ false) × (AdviceNotAllowed ≡ fault))
of_choice true rest fault h = inl (refl, h)
of_choice false rest fault h = inr (refl, cc)

is_first : (m : ModelData) (t : Table) (n p : ℕ) (x : Vertex) (fault : BoundFault) → bound_fault m t n p x ≡ Some fault → IsFirstFault m t n p x fault
is_first m t zero p x fault h = first_of_values m t zero p x fault tt (values_fail (t.upper 0 p x) (needed_upper m t 0 p x) (t.lower 0 p x) (allowed_lower m t 0 p x) fault h)
is_first m t (suc n) p x fault h =
    let advice : ℕ = t.advice (suc n) p x in
    let upper : ℤ = t.upper (suc n) p x in
    let needed : ℤ = needed_upper m t (suc n) p x in
    let lower : ℤ = t.lower (suc n) p x in
    let allowed : ℤ = allowed_lower m t (suc n) p x in
    ⊎_elim
    (λ (passes : (is_allowed m p advice ≡ true) × (values_fault upper needed lower allowed ≡ Some fault)).
    first_of_values m t (suc n) p x fault ((is_allowed-is m p advice).0 passes.0) (values_fail upper needed lower allowed fault passes.1))
    (λ (fails : (is_allowed m p advice ≡ false) × (AdviceNotAllowed ≡ fault)).
    subst (λ (f : BoundFault). IsFirstFault m t (suc n) p x f) fails.1 (λ chosen. false≢true (sym fails.0 ∙ (is_allowed-is m p advice).1 chosen)))
    (of_choice (is_allowed m p advice) (values_fault upper needed lower allowed) fault h)

fault_of_first : (m : ModelData) (t : Table) (n p : ℕ) (x : Vertex) (fault : BoundFault) → IsFirstFault m t n p x fault → bound_fault m t n p x ≡ Some fault
fault_of_first m t zero p x fault first =
    ⊎_elim
    (λ (none : ¬ (AdvicePasses m t 0 p x) × (fault ≡ AdviceNotAllowed)). absurd (none.0 tt))
    (λ (passes : AdvicePasses m t 0 p x × ValuesFail (t.upper 0 p x) (needed_upper m t 0 p x) (t.lower 0 p x) (allowed_lower m t 0 p x) fault).
    fault_of_values (t.upper 0 p x) (needed_upper m t 0 p x) (t.lower 0 p x) (allowed_lower m t 0 p x) fault passes.1)
    (values_of_first m t zero p x fault first)
fault_of_first m t (suc n) p x fault first =
    let advice : ℕ = t.advice (suc n) p x in
    let upper : ℤ = t.upper (suc n) p x in
    let needed : ℤ = needed_upper m t (suc n) p x in
    let lower : ℤ = t.lower (suc n) p x in
    let allowed : ℤ = allowed_lower m t (suc n) p x in
    ⊎_elim
    (λ (none : ¬ (AdvicePasses m t (suc n) p x) × (fault ≡ AdviceNotAllowed)).
    ⊎_elim
    (λ (ok : is_allowed m p advice ≡ true). absurd (none.0 ((is_allowed-is m p advice).0 ok)))
    (λ (no : is_allowed m p advice ≡ false). rw (no, none.1) refl)
    (cases_Bool (is_allowed m p advice)))
    (λ (passes : AdvicePasses m t (suc n) p x × ValuesFail upper needed lower allowed fault).
    rw ((is_allowed-is m p advice).1 passes.0) (fault_of_values upper needed lower allowed fault passes.1))
    (values_of_first m t (suc n) p x fault first)

pub first_fault-is : (m : ModelData) (t : Table) (n p : ℕ) (x : Vertex) (fault : BoundFault) → (bound_fault m t n p x ≡ Some fault) ↔ IsFirstFault m t n p x fault
first_fault-is m t n p x fault = (is_first m t n p x fault, fault_of_first m t n p x fault)
