-- Members of lists that are made in order, and when such lists are sorted.
use Rattle.std.proofs.Common.{◌≡◌, ℕ, zero, suc, ◌<◌, ◌⊎◌, inl, inr, true, false, Bool, List, [], ◌∷◌, ◌++◌, refl, sym, ◌∙◌, ap, subst, arith}
use Rattle.std.specs.List.{AllByRecursion, Contains, flat_map, list_all, list_any}
use Rattle.std.specs.List.Sorted.{IsStrictlySortedBy}
use Rattle.std.specs.declared.cmp.Ordering.{Ordering}
use Rattle.std.specs.declared.cmp.Ordering.TheVariants.{Less}
use Rattle.std.proofs.lemmas.List.Elements.{Contains-append_left, Contains-append_right, Contains-append_cases}
use Rattle.std.proofs.lemmas.Bool.{and_parts, cases_lt}
use Rattle.acas_cells.specs.Cells.{below}

-- ---- members

pub not_in_none : {A : Type 0} (x : A) → Contains [] x → ⊥
not_in_none x (k, within, at) = omega (arith, within)

pub in_one : {A : Type 0} (y x : A) → y ≡ x → Contains (y ∷ []) x
in_one y x e = (0, omega arith, e)

pub of_one : {A : Type 0} (y x : A) → Contains (y ∷ []) x → y ≡ x
of_one y x (zero, within, at) = at
of_one y x (suc k, within, at) = absurd (omega (arith, within))

pub in_first : {A : Type 0} (x : A) (xs : List A) → Contains (x ∷ xs) x
in_first x xs = Contains-append_left (x ∷ []) xs x (in_one x x refl)

pub in_rest : {A : Type 0} (y : A) (xs : List A) (x : A) → Contains xs x → Contains (y ∷ xs) x
in_rest y xs x h = Contains-append_right (y ∷ []) xs x h

pub first_or_rest : {A : Type 0} (y : A) (xs : List A) (x : A) → Contains (y ∷ xs) x → (y ≡ x) ⊎ Contains xs x
first_or_rest y xs x h = elim (Contains-append_cases (y ∷ []) xs x h) [ inl one ↦ inl (of_one y x one) | inr rest ↦ inr rest ]

-- a member of the items of some number
pub in_below : {A : Type 0} (n : ℕ) (f : ℕ → List A) (k : ℕ) (x : A) → k < n → Contains (f k) x → Contains (below n f) x
in_below zero f k x within h = absurd (omega (arith, within))
in_below (suc n) f k x within h =
    elim (cases_lt k n) [
      | inl less ↦ Contains-append_left (below n f) (f n) x (in_below n f k x less h)
      | inr not_less ↦
          let e : k ≡ n = omega (arith, within, not_less) in
          Contains-append_right (below n f) (f n) x (subst (λ (i : ℕ). Contains (f i) x) e h)
    ]

pub of_below : {A : Type 0} (n : ℕ) (f : ℕ → List A) (x : A) → Contains (below n f) x → (k : ℕ) × (k < n) × Contains (f k) x
of_below zero f x h = absurd (not_in_none x h)
of_below (suc n) f x h =
    elim (Contains-append_cases (below n f) (f n) x h) [
      | inl before ↦ let r = of_below n f x before in let less : r.0 < n = r.1 in (r.0, omega (arith, less), r.2)
      | inr here ↦ (n, omega arith, here)
    ]

-- a member of what some item gives
pub in_flat_map : {A B : Type 0} (g : A → List B) (xs : List A) (y : A) (x : B) → Contains xs y → Contains (g y) x → Contains (flat_map g xs) x
in_flat_map g [] y x there h = absurd (not_in_none y there)
in_flat_map g (z ∷ xs) y x there h =
    elim (first_or_rest z xs y there) [
      | inl e ↦ Contains-append_left (g z) (flat_map g xs) x (subst (λ w. Contains (g w) x) (sym e) h)
      | inr rest ↦ Contains-append_right (g z) (flat_map g xs) x (in_flat_map g xs y x rest h)
    ]

pub of_flat_map : {A B : Type 0} (g : A → List B) (xs : List A) (x : B) → Contains (flat_map g xs) x → (y : A) × Contains xs y × Contains (g y) x
of_flat_map g [] x h = absurd (not_in_none x h)
of_flat_map g (z ∷ xs) x h =
    elim (Contains-append_cases (g z) (flat_map g xs) x h) [
      | inl first ↦ (z, in_first z xs, first)
      | inr rest ↦ let r = of_flat_map g xs x rest in (r.0, in_rest z xs r.0 r.1, r.2)
    ]

-- ---- tests of members

pub any_from : {A : Type 0} (test : A → Bool) (xs : List A) (x : A) → Contains xs x → test x ≡ true → list_any test xs ≡ true
any_from test [] x there passes = absurd (not_in_none x there)
any_from test (y ∷ xs) x there passes =
    elim (first_or_rest y xs x there) [
      | inl e ↦ rw (ap test e ∙ passes) refl
      | inr rest ↦ let more : list_any test xs ≡ true = any_from test xs x rest passes in grind (arith, more)
    ]

pub one_of_any : {A : Type 0} (test : A → Bool) (xs : List A) → list_any test xs ≡ true → (x : A) × Contains xs x × (test x ≡ true)
one_of_any test [] passes = absurd (cc)
one_of_any {A = A} test (y ∷ xs) passes = by_test (test y) refl (λ rest. one_of_any test xs rest)
  where
    by_test : (b : Bool) → test y ≡ b → (list_any test xs ≡ true → (x : A) × Contains xs x × (test x ≡ true)) → (x : A) × Contains (y ∷ xs) x × (test x ≡ true)
    by_test true e more = (y, in_first y xs, e)
    by_test false e more =
        let r = more (grind (arith, e, passes)) in (r.0, in_rest y xs r.0 r.1, r.2)

pub all_pass : {A : Type 0} (test : A → Bool) (xs : List A) (x : A) → list_all test xs ≡ true → Contains xs x → test x ≡ true
all_pass test [] x pass there = absurd (not_in_none x there)
all_pass test (y ∷ xs) x pass there =
    let both = and_parts (test y) (list_all test xs) pass in
    elim (first_or_rest y xs x there) [ inl e ↦ ap test (sym e) ∙ both.0 | inr rest ↦ all_pass test xs x both.1 rest ]

pub all_or_one : {A : Type 0} (test : A → Bool) (xs : List A) → (list_all test xs ≡ true) ⊎ ((x : A) × Contains xs x × (test x ≡ false))
all_or_one test [] = inl refl
all_or_one {A = A} test (y ∷ xs) = by_test (test y) refl (all_or_one test xs)
  where
    by_test : (b : Bool) → test y ≡ b → (list_all test xs ≡ true) ⊎ ((x : A) × Contains xs x × (test x ≡ false)) →
        (list_all test (y ∷ xs) ≡ true) ⊎ ((x : A) × Contains (y ∷ xs) x × (test x ≡ false))
    by_test true e (inl all) = inl (grind (arith, e, all))
    by_test true e (inr one) = inr (one.0, in_rest y xs one.0 one.1, one.2)
    by_test false e rest = inr (y, in_first y xs, e)

-- ---- sorted lists

pub all_members : {A : Type 0} (P : A → Type 0) (xs : List A) → ((x : A) → Contains xs x → P x) → AllByRecursion P xs
all_members P [] h = tt
all_members P (x ∷ xs) h = (h x (in_first x xs), all_members P xs (λ y there. h y (in_rest x xs y there)))

all_append : {A : Type 0} (P : A → Type 0) (xs ys : List A) → AllByRecursion P xs → AllByRecursion P ys → AllByRecursion P (xs ++ ys)
all_append P [] ys h r = r
all_append P (x ∷ xs) ys h r = (h.0, all_append P xs ys h.1 r)

pub all_of : {A : Type 0} (P : A → Type 0) (xs : List A) (x : A) → AllByRecursion P xs → Contains xs x → P x
all_of P [] x h there = absurd (not_in_none x there)
all_of P (y ∷ xs) x h there = elim (first_or_rest y xs x there) [ inl e ↦ subst P e h.0 | inr rest ↦ all_of P xs x h.1 rest ]

-- each member of a list is before each member of another
pub record AreBefore {A : Type 0} (c : A → A → Ordering) (xs ys : List A) : Type 0 where
  pub each : (x y : A) → Contains xs x → Contains ys y → c x y ≡ Less

pub sorted_append : {A : Type 0} (c : A → A → Ordering) (xs ys : List A) →
    IsStrictlySortedBy c xs → IsStrictlySortedBy c ys → AreBefore c xs ys → IsStrictlySortedBy c (xs ++ ys)
unfolding IsStrictlySortedBy
sorted_append c [] ys h r before = r
sorted_append c (x ∷ xs) ys h r before = (
  all_append (λ y. c x y ≡ Less) xs ys h.0 (all_members (λ y. c x y ≡ Less) ys (λ y there. before.each x y (in_first x xs) there)),
  sorted_append c xs ys h.1 r (record { each = λ z y of there. before.each z y (in_rest x xs z of) there }),
)

pub sorted_below : {A : Type 0} (c : A → A → Ordering) (n : ℕ) (f : ℕ → List A) →
    ((k : ℕ) → k < n → IsStrictlySortedBy c (f k)) → ((k l : ℕ) → k < l → AreBefore c (f k) (f l)) →
    IsStrictlySortedBy c (below n f)
unfolding IsStrictlySortedBy
sorted_below c zero f each before = tt
sorted_below c (suc n) f each before =
    sorted_append c (below n f) (f n)
    (sorted_below c n f (λ k within. each k (omega (arith, within))) before)
    (each n (omega arith))
    (record { each = λ x y of there. let r = of_below n f x of in (before r.0 n r.1).each x y r.2 there })

pub sorted_flat_map : {A B : Type 0} (d : A → A → Ordering) (c : B → B → Ordering) (g : A → List B) (xs : List A) →
    IsStrictlySortedBy d xs → ((y : A) → IsStrictlySortedBy c (g y)) → ((y z : A) → d y z ≡ Less → AreBefore c (g y) (g z)) →
    IsStrictlySortedBy c (flat_map g xs)
unfolding IsStrictlySortedBy
sorted_flat_map d c g [] sorted each before = tt
sorted_flat_map d c g (y ∷ xs) sorted each before =
    sorted_append c (g y) (flat_map g xs) (each y) (sorted_flat_map d c g xs sorted.1 each before)
    (record {
      each = λ u v of there.
          let r = of_flat_map g xs v there in
          (before y r.0 (all_of (λ z. d y z ≡ Less) xs r.0 sorted.0 r.1)).each u v of r.2;
    })
