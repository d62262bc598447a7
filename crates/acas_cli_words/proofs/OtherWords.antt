-- Words of no form.
use Rattle.std.proofs.Common.{◌≡◌, ℕ, length, refl, List, [], ◌∷◌, None}
use Rattle.acas_cli_words.specs.Words.{form_of}

-- words that are none of two, of three, of four or of five have no form
pub form_of-none : (words : List (List ℕ)) → (length words ≡ 2 → ⊥) → (length words ≡ 3 → ⊥) → (length words ≡ 4 → ⊥) → (length words ≡ 5 → ⊥) → form_of words ≡ None
form_of-none [] two three four five = refl
form_of-none (verb ∷ []) two three four five = refl
form_of-none (verb ∷ a ∷ []) two three four five = absurd (two refl)
form_of-none (verb ∷ a ∷ b ∷ []) two three four five = absurd (three refl)
form_of-none (verb ∷ a ∷ b ∷ c ∷ []) two three four five = absurd (four refl)
form_of-none (verb ∷ a ∷ b ∷ c ∷ d ∷ []) two three four five = absurd (five refl)
form_of-none (verb ∷ a ∷ b ∷ c ∷ d ∷ e ∷ rest) two three four five = refl
