-- The first of a list of which something holds: there is one or none, and no other.
use Rattle.std.proofs.Common.{◌≡◌, ◌≢◌, ℕ, zero, suc, ◌+◌, ◌<◌, ◌≤◌, ◌↔◌, ⊎_elim, inl, inr, ◌⊎◌, refl, sym, subst, ap, ◌∙◌, arith, true, false, not, nat_eq, List, [], ◌∷◌, length, get_or, Contains, filter}
use Rattle.std.proofs.lemmas.Bool.{cases_lt}
use Rattle.std.proofs.lemmas.Grind.{get_or_default_zero}
use Rattle.acas_spec.specs.declared.parts.Choice.{Choice}
use Rattle.acas_process.specs.Cost.{advisories_of}
use Rattle.acas_safeable.specs.Firsts.{IsFirst, IsFound}
use Rattle.acas_safeable.specs.declared.outlook.Outlook.{Outlook}
use Rattle.acas_safeable.specs.declared.outlook.Outlook.TheVariants.{Safeable, Unshown}

pub first_listed : (P : ℕ → Type 0) (xs : List ℕ) (a : ℕ) → IsFirst P xs a → Contains xs a
first_listed P xs a f = (f.place, f.among, get_or_default_zero xs f.place a f.among ∙ f.stands)

-- ---- no other

module _ (P : ℕ → Type 0) (xs : List ℕ) where
  not_earlier : (a b : ℕ) → (f : IsFirst P xs a) → (g : IsFirst P xs b) → f.place < g.place → ⊥
  not_earlier a b f g l = g.before f.place l (subst P (sym f.stands) f.holds)

  first-same : (a b : ℕ) → IsFirst P xs a → IsFirst P xs b → a ≡ b
  first-same a b f g =
      ⊎_elim
      (λ l. absurd (not_earlier a b f g l))
      (λ h. ⊎_elim
      (λ l. absurd (not_earlier b a g f l))
      (λ k. let e : f.place ≡ g.place = omega arith in sym f.stands ∙ ap (λ n. get_or xs n 0) e ∙ g.stands)
      (cases_lt g.place f.place))
      (cases_lt f.place g.place)

  pub found-same : (found other : Outlook) → IsFound P xs found → IsFound P xs other → found ≡ other
  found-same (Safeable a) (Safeable b) f g = ap Safeable (first-same a b f g)
  found-same (Safeable a) Unshown f g = absurd (g a (first_listed P xs a f) f.holds)
  found-same Unshown (Safeable b) f g = absurd (f b (first_listed P xs b g) g.holds)
  found-same Unshown Unshown f g = refl

-- the same of what holds of the same
pub found-of : (P R : ℕ → Type 0) (xs : List ℕ) (found : Outlook) → ((a : ℕ) → P a ↔ R a) → IsFound P xs found → IsFound R xs found
found-of P R xs (Safeable a) same f = record { place = f.place; among = f.among; stands = f.stands; holds = (same a).0 f.holds; before = λ k l r. f.before k l ((same (get_or xs k 0)).1 r) }
found-of P R xs Unshown same f = λ a listed r. f a listed ((same a).1 r)

-- ---- one more in front

module _ (P : ℕ → Type 0) (x : ℕ) (xs : List ℕ) where
  front : P x → IsFirst P (x ∷ xs) x
  front p = record { place = 0; among = omega arith; stands = refl; holds = p; before = λ k l. absurd (omega (arith, l)) }

  behind : (a : ℕ) → (P x → ⊥) → IsFirst P xs a → IsFirst P (x ∷ xs) a
  behind a fails f = record { place = suc f.place; among = omega (arith, f.among); stands = f.stands; holds = f.holds; before = before }
    where
      before : (k : ℕ) → k < suc f.place → ¬ P (get_or (x ∷ xs) k 0)
      before zero l = fails
      before (suc k) l = f.before k (omega arith)

  still_none : (P x → ⊥) → ((a : ℕ) → Contains xs a → ¬ P a) → (a : ℕ) → Contains (x ∷ xs) a → ¬ P a
  still_none fails none a (zero, h, e) p = fails (subst P (sym e) p)
  still_none fails none a (suc k, h, e) p = none a (k, omega arith, e) p

  tail_listed : (a : ℕ) → Contains xs a → Contains (x ∷ xs) a
  tail_listed a (k, h, e) = (suc k, omega arith, e)

-- there is a first or none
pub found-some : (P : ℕ → Type 0) (xs : List ℕ) → ((a : ℕ) → Contains xs a → P a ⊎ (P a → ⊥)) → (found : Outlook) × IsFound P xs found
found-some P [] decided = (Unshown, λ a (k, h, e) p. absurd (omega arith))
found-some P (x ∷ xs) decided =
    ⊎_elim
    (λ p. (Safeable x, front P x xs p))
    (λ fails. later fails (found-some P xs (λ a listed. decided a (tail_listed P x xs a listed))))
    (decided x (0, omega arith, refl))
  where
    later : (P x → ⊥) → (found : Outlook) × IsFound P xs found → (found : Outlook) × IsFound P (x ∷ xs) found
    later fails (Safeable a, f) = (Safeable a, behind P x xs a fails f)
    later fails (Unshown, f) = (Unshown, still_none P x xs fails f)

-- ---- choices, clear of conflict left out

abbrev pub others : List Choice → List ℕ
others cs = filter (λ a. not (nat_eq a 0)) (advisories_of cs)

-- P holds of no other of the first i choices
abbrev pub IsPassed : (ℕ → Type 0) → List Choice → Choice → ℕ → Type 0
IsPassed P cs d i = (k : ℕ) → k < i → (get_or cs k d).advisory ≢ 0 → ¬ P (get_or cs k d).advisory

test_other : (a : ℕ) → a ≢ 0 → not (nat_eq a 0) ≡ true
test_other a h = grind arith

test_clear : (a : ℕ) → a ≡ 0 → not (nat_eq a 0) ≡ false
test_clear a e = grind arith

cases_clear : (a : ℕ) → (a ≡ 0) ⊎ (a ≢ 0)
cases_clear zero = inl refl
cases_clear (suc a) = inr (λ e. absurd (omega (arith, e)))

module _ (P : ℕ → Type 0) (d : Choice) where
  pub passed-first : (cs : List Choice) (i : ℕ) → i < length cs → IsPassed P cs d i → (get_or cs i d).advisory ≢ 0 → P (get_or cs i d).advisory → IsFirst P (others cs) (get_or cs i d).advisory
  passed-first [] i h passed other p = absurd (omega arith)
  passed-first (c ∷ rest) zero h passed other p = rw (test_other c.advisory other) (front P c.advisory (others rest) p)
  passed-first (c ∷ rest) (suc i) h passed other p =
      let later = passed-first rest i (omega arith) (λ k l. passed (suc k) (omega arith)) other p in
      ⊎_elim
      (λ e. rw (test_clear c.advisory e) later)
      (λ n. rw (test_other c.advisory n) (behind P c.advisory (others rest) (get_or rest i d).advisory (passed 0 (omega arith) n) later))
      (cases_clear c.advisory)

  pub passed-all : (cs : List Choice) → IsPassed P cs d (length cs) → (a : ℕ) → Contains (others cs) a → ¬ P a
  passed-all [] passed = λ a (k, h, e) p. absurd (omega arith)
  passed-all (c ∷ rest) passed =
      let later = passed-all rest (λ k l. passed (suc k) (omega arith)) in
      ⊎_elim
      (λ e. rw (test_clear c.advisory e) later)
      (λ n. rw (test_other c.advisory n) (still_none P c.advisory (others rest) (passed 0 (omega arith) n) later))
      (cases_clear c.advisory)

-- ---- the same in a loop over the choices

module _ (P : ℕ → Type 0) (d : Choice) (items cs : List Choice) (i : ℕ) (e : items ≡ cs) (passed : IsPassed P cs d i) where
  pub first_here : i < length items → (get_or items i d).advisory ≢ 0 → P (get_or items i d).advisory → IsFirst P (others cs) (get_or items i d).advisory
  first_here = rw e (λ within other p. passed-first P d cs i within passed other p)

  pub passed_more : ((get_or items i d).advisory ≢ 0 → ¬ P (get_or items i d).advisory) → IsPassed P cs d (i + 1)
  passed_more = rw e (λ here k l. ⊎_elim (λ (h : k < i). passed k h) (λ (h : i ≤ k). let same : k ≡ i = omega arith in rw same here) (cases_lt k i))

  pub passed_all : length items ≤ i → (a : ℕ) → Contains (others cs) a → ¬ P a
  passed_all = rw e (λ done. passed-all P d cs (λ k l. passed k (omega (arith, l, done))))

-- the others are choices
abbrev IsChosen : List Choice → Choice → ℕ → Type 0
IsChosen cs d a = (k : ℕ) × (k < length cs) × ((get_or cs k d).advisory ≡ a)

chosen_later : (c : Choice) (cs : List Choice) (d : Choice) (a : ℕ) → IsChosen cs d a → IsChosen (c ∷ cs) d a
chosen_later c cs d a (k, h, e) = (suc k, omega arith, e)

chosen : (c : Choice) (cs : List Choice) (d : Choice) (a : ℕ) → (Contains (others cs) a → IsChosen cs d a) → Contains (c.advisory ∷ others cs) a → IsChosen (c ∷ cs) d a
chosen c cs d a later (zero, h, e) = (0, omega arith, e)
chosen c cs d a later (suc k, h, e) = chosen_later c cs d a (later (k, omega arith, e))

pub other_listed : (cs : List Choice) (d : Choice) (a : ℕ) → Contains (others cs) a → (k : ℕ) × (k < length cs) × ((get_or cs k d).advisory ≡ a)
other_listed [] d a = λ (k, h, e). absurd (omega arith)
other_listed (c ∷ rest) d a =
    let later = other_listed rest d a in
    ⊎_elim
    (λ e. rw (test_clear c.advisory e) (λ (h : Contains (others rest) a). chosen_later c rest d a (later h)))
    (λ n. rw (test_other c.advisory n) (chosen c rest d a later))
    (cases_clear c.advisory)
