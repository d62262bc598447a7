-- The least value over a list of choices, and the first choice that has it.
use Rattle.std.specs.Int.{int_min}
use Rattle.std.proofs.Common.{◌≡◌, ℕ, zero, suc, ◌<◌, ℤ, pos, ◌≤ℤ◌, ◌<ℤ◌, List, [], ◌∷◌, length, get_or, drop, true, false, int_le, Contains, refl, subst, ◌∙◌, arith}
use Rattle.std.proofs.lemmas.Int.{ints, clamps, by_lt_z}
use Rattle.acas_spec.specs.declared.parts.Choice.{Choice}
use Rattle.acas_process.specs.Compiled.{first_least, least}
use Rattle.acas_process.specs.Cost.{advisories_of}
use Rattle.acas_process.proofs.ModelLaws.{listed, place_of}

pub le-true : (x y : ℤ) → x ≤ℤ y → int_le x y ≡ true
le-true x y h = grind (arith, ints)

pub le-false : (x y : ℤ) → y <ℤ x → int_le x y ≡ false
le-false x y h = grind (arith, ints)

pub Contains-cons : (x : ℕ) (xs : List ℕ) (y : ℕ) → Contains xs y → Contains (x ∷ xs) y
Contains-cons x xs y (k, h, e) = (suc k, omega arith, e)

pub Contains-first : (x : ℕ) (xs : List ℕ) → Contains (x ∷ xs) x
Contains-first x xs = (0, omega arith, refl)

-- ---- the least value

-- it is at most that of each choice
pub least-le_at : (f : ℕ → ℤ) (cs : List Choice) (k : ℕ) (d : Choice) → k < length cs → least f cs ≤ℤ f (get_or cs k d).advisory
least-le_at f [] k d h = absurd (omega arith)
least-le_at f (c ∷ []) zero d h = omega (arith, ints)
least-le_at f (c ∷ []) (suc k) d h = absurd (omega arith)
least-le_at f (c ∷ e ∷ rest) zero d h = omega (arith, ints, clamps)
least-le_at f (c ∷ e ∷ rest) (suc k) d h = omega (arith, ints, clamps, least-le_at f (e ∷ rest) k d (omega arith))

pub least-le : (f : ℕ → ℤ) (cs : List Choice) (a : ℕ) → Contains (advisories_of cs) a → least f cs ≤ℤ f a
least-le f cs a h =
    let d : Choice = record { advisory = 0; cost = pos 0 } in
    let at = place_of cs a d h in
    subst (λ (n : ℕ). least f cs ≤ℤ f n) at.is (least-le_at f cs at.place d at.within)

-- ---- the first choice that has it

-- an advisory stands at a place, has the least value, and no choice before it has
pub record IsFirstAt (f : ℕ → ℤ) (cs : List Choice) (d : Choice) (a : ℕ) : Type 0 where
  pub place : ℕ
  pub within : place < length cs
  pub stands : (get_or cs place d).advisory ≡ a
  pub value : f a ≡ least f cs
  pub before : (k : ℕ) → k < place → least f cs <ℤ f (get_or cs k d).advisory

above_later : (f : ℕ → ℤ) (c : Choice) (cs : List Choice) (d : Choice) (z : ℤ) (place : ℕ) → z <ℤ f c.advisory → ((k : ℕ) → k < place → z <ℤ f (get_or cs k d).advisory) →
    (k : ℕ) → k < suc place → z <ℤ f (get_or (c ∷ cs) k d).advisory
above_later f c cs d z place h later zero within = h
above_later f c cs d z place h later (suc k) within = later k (omega (arith, within))

pub first_at : (f : ℕ → ℤ) (cs : List Choice) (d : Choice) → 0 < length cs → IsFirstAt f cs d (first_least f cs)
first_at f [] d h = absurd (omega arith)
first_at f (c ∷ []) d h = record { place = 0; within = omega arith; stands = refl; value = refl; before = λ k w. absurd (omega (arith, w)) }
first_at f (c ∷ e ∷ rest) d h =
    let later = first_at f (e ∷ rest) d (omega arith) in
    by_lt_z (least f (e ∷ rest)) (f c.advisory)
    (λ l.
    let same : least f (e ∷ rest) ≡ least f (c ∷ e ∷ rest) = omega (arith, ints, clamps) in
    rw (le-false (f c.advisory) (least f (e ∷ rest)) l)
    (record {
      place = suc later.place;
      within = omega (arith, later.within);
      stands = later.stands;
      value = later.value ∙ same;
      before = subst (λ z. (k : ℕ) → k < suc later.place → z <ℤ f (get_or (c ∷ e ∷ rest) k d).advisory) same (above_later f c (e ∷ rest) d (least f (e ∷ rest)) later.place l later.before);
    }))
    (λ l.
    rw (le-true (f c.advisory) (least f (e ∷ rest)) l)
    (record { place = 0; within = omega arith; stands = refl; value = omega (arith, ints, clamps); before = λ k w. absurd (omega (arith, w)) }))

-- an advisory of the list has the least value
pub record IsLeastOf (f : ℕ → ℤ) (cs : List Choice) (a : ℕ) : Type 0 where
  pub listed : Contains (advisories_of cs) a
  pub least : f a ≡ least f cs

pub first_least_is : (f : ℕ → ℤ) (cs : List Choice) → 0 < length cs → IsLeastOf f cs (first_least f cs)
first_least_is f cs h =
    let d : Choice = record { advisory = 0; cost = pos 0 } in
    let at = first_at f cs d h in
    record { listed = subst (λ (n : ℕ). Contains (advisories_of cs) n) at.stands (listed cs at.place d at.within); least = at.value }

-- what is at most the value of each choice is at most the least
pub le-least : (f : ℕ → ℤ) (cs : List Choice) (z : ℤ) → 0 < length cs → ((a : ℕ) → Contains (advisories_of cs) a → z ≤ℤ f a) → z ≤ℤ least f cs
le-least f cs z h low = let best = first_least_is f cs h in omega (arith, ints, best.least, low (first_least f cs) best.listed)

-- ---- values that are equal at the advisories of a list

pub least-same : (f g : ℕ → ℤ) (cs : List Choice) → ((a : ℕ) → Contains (advisories_of cs) a → f a ≡ g a) → least f cs ≡ least g cs
least-same f g [] h = refl
least-same f g (c ∷ []) h = h c.advisory (Contains-first c.advisory [])
least-same f g (c ∷ e ∷ rest) h =
    let later : (a : ℕ) → Contains (advisories_of (e ∷ rest)) a → f a ≡ g a = λ a k. h a (Contains-cons c.advisory (advisories_of (e ∷ rest)) a k) in
    rw (h c.advisory (Contains-first c.advisory (advisories_of (e ∷ rest))), least-same f g (e ∷ rest) later) refl

pub first_least-same : (f g : ℕ → ℤ) (cs : List Choice) → ((a : ℕ) → Contains (advisories_of cs) a → f a ≡ g a) → first_least f cs ≡ first_least g cs
first_least-same f g [] h = refl
first_least-same f g (c ∷ []) h = refl
first_least-same f g (c ∷ e ∷ rest) h =
    let later : (a : ℕ) → Contains (advisories_of (e ∷ rest)) a → f a ≡ g a = λ a k. h a (Contains-cons c.advisory (advisories_of (e ∷ rest)) a k) in
    rw (h c.advisory (Contains-first c.advisory (advisories_of (e ∷ rest))), least-same f g (e ∷ rest) later, first_least-same f g (e ∷ rest) later) refl

-- ---- the choices from a place on, for a loop that goes down

pub least-drop : (f : ℕ → ℤ) (cs : List Choice) (i : ℕ) (d : Choice) → suc i < length cs → least f (drop i cs) ≡ int_min (f (get_or cs i d).advisory) (least f (drop (suc i) cs))
least-drop f [] i d h = absurd (omega arith)
least-drop f (c ∷ []) i d h = absurd (omega arith)
least-drop f (c ∷ e ∷ rest) zero d h = refl
least-drop f (c ∷ e ∷ rest) (suc i) d h = least-drop f (e ∷ rest) i d (omega arith)
