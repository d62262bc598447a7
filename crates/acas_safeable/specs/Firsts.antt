-- The first of a list of which something holds, as an outlook.
use Rattle.std.specs.Prelude.{◌≡◌, ℕ, ◌<◌, List, Contains, length, get_or}
use Rattle.acas_safeable.specs.declared.outlook.Outlook.{Outlook}
use Rattle.acas_safeable.specs.declared.outlook.Outlook.TheVariants.{Safeable, Unshown}

-- a stands in the list, P holds of it, and of none before it
pub record IsFirst (P : ℕ → Type 0) (xs : List ℕ) (a : ℕ) : Type 0 where
  pub place : ℕ
  pub among : place < length xs
  pub stands : get_or xs place 0 ≡ a
  pub holds : P a
  pub before : (k : ℕ) → k < place → ¬ P (get_or xs k 0)

-- what is found is the first of the list of which P holds, or P holds of none
abbrev pub IsFound : (ℕ → Type 0) → List ℕ → Outlook → Type 0
IsFound P xs (Safeable a) = IsFirst P xs a
IsFound P xs Unshown = (a : ℕ) → Contains xs a → ¬ P a
