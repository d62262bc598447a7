-- Texts between separators: where two lines are equal, so are their fields, one by one.
use Rattle.std.proofs.Common.{◌≡◌, ℕ, ◌<◌, Bool, true, false, List, [], ◌∷◌, ◌++◌, refl, ap, sym, ◌∙◌, arith}
use Rattle.std.specs.List.{AllByRecursion}

-- none of these bytes is a separator
abbrev pub Lacks : (ℕ → Bool) → List ℕ → Type 0
Lacks stop text = AllByRecursion (λ b. stop b ≡ false) text

-- the text is empty, or a separator comes first
abbrev pub Stops : (ℕ → Bool) → List ℕ → Type 0
Stops stop [] = Unit {0}
Stops stop (b ∷ text) = stop b ≡ true

-- bytes that differ are not equal
pub less : {A : Type 0} (x y : ℕ) → x < y → x ≡ y → A
less x y l e = absurd (omega arith)

-- a separator is no byte of a field
pub apart : (b : Bool) {A : Type 0} → b ≡ true → b ≡ false → A
apart true e h = absurd (cc)
apart false e h = absurd (cc)

first : (x y : ℕ) (xs ys : List ℕ) → x ∷ xs ≡ y ∷ ys → x ≡ y
first x y xs ys e = cc

rest : (x y : ℕ) (xs ys : List ℕ) → x ∷ xs ≡ y ∷ ys → xs ≡ ys
rest x y xs ys e = cc

-- two equal texts have equal fields first, and the same behind them
pub peel : (stop : ℕ → Bool) (a b s t : List ℕ) → Lacks stop a → Lacks stop b → Stops stop s → Stops stop t → a ++ s ≡ b ++ t → (a ≡ b) × (s ≡ t)
peel stop [] [] s t la lb ss st e = (refl, e)
peel stop [] (y ∷ b) [] t la lb ss st e = absurd (cc)
peel stop [] (y ∷ b) (x ∷ s) t la lb ss st e =
    let same : x ≡ y = first x y s (b ++ t) e in
    apart (stop y) (ap stop (sym same) ∙ ss) lb.0
peel stop (x ∷ a) [] s [] la lb ss st e = absurd (cc)
peel stop (x ∷ a) [] s (y ∷ t) la lb ss st e =
    let same : x ≡ y = first x y (a ++ s) t e in
    apart (stop x) (ap stop same ∙ st) la.0
peel stop (x ∷ a) (y ∷ b) s t la lb ss st e =
    let same : x ≡ y = first x y (a ++ s) (b ++ t) e in
    let more = peel stop a b s t la.1 lb.1 ss st (rest x y (a ++ s) (b ++ t) e) in
    (ap (λ z. z ∷ a) same ∙ ap (λ l. y ∷ l) more.0, more.1)

-- each byte of two texts has what each byte of either has
pub all_append : {A : Type 0} (P : A → Type 0) (a b : List A) → AllByRecursion P a → AllByRecursion P b → AllByRecursion P (a ++ b)
all_append P [] b pa pb = pb
all_append P (x ∷ a) b pa pb = (pa.0, all_append P a b pa.1 pb)
