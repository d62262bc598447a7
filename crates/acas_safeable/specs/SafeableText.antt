-- What `safeable` prints.
use Rattle.std.specs.Prelude.{◌≡◌, ℕ, nat_eq, ◌&&◌, Bool, true, false, List, [], ◌∷◌, ◌++◌, codes, count_by, Option, if◌then◌else◌}
use Rattle.std.specs.Fmt.{decimal}
use Rattle.std.specs.List.{flat_map}
use Rattle.acas_spec.specs.Model.{ModelData, advisory_at}
use Rattle.acas_base.specs.Advices.{AdvicesData}
use Rattle.acas_outside.specs.Bytes.{AppendsPart}
use Rattle.acas_cells.specs.Cells.{Cell, cells_of}
use Rattle.acas_cells.specs.Corners.{is_clear_cell}
use Rattle.acas_safeable.specs.Outlooks.{AreOutlooks, is_looked_at}
use Rattle.acas_safeable.specs.declared.counts.SafeCounts.{SafeCounts}
use Rattle.acas_safeable.specs.declared.outlook.Outlook.{Outlook}
use Rattle.acas_safeable.specs.declared.outlook.Outlook.TheVariants.{Safeable, Unshown}

-- a space and a number
abbrev pub number_field : ℕ → List ℕ
number_field number = 32 ∷ decimal number

-- what is found, by the name of the advisory
abbrev pub outlook_text : ModelData → Outlook → List ℕ
outlook_text m (Safeable advisory) = codes " safeable " ++ (advisory_at m advisory).name
outlook_text m Unshown = codes " open"

-- the line of a cell: its seconds, present advisory and places, and what is found
unfoldable pub cell_line : ModelData → Cell → Outlook → List ℕ
cell_line m c outlook =
    codes "cell" ++ number_field c.n ++ 32 ∷ (advisory_at m c.present).name
    ++ number_field c.i ++ number_field c.j ++ number_field c.k
    ++ outlook_text m outlook ++ 10 ∷ []

-- the line of a cell that is looked at, and nothing of others
abbrev pub cell_text : ModelData → AdvicesData → (Cell → Outlook) → Cell → List ℕ
cell_text m a found c = if is_looked_at m a c then cell_line m c (found c) else []

-- an advisory was found
abbrev pub is_safeable : Outlook → Bool
is_safeable (Safeable advisory) = true
is_safeable Unshown = false

-- none was found
abbrev pub is_open : Outlook → Bool
is_open (Safeable advisory) = false
is_open Unshown = true

-- a cell is near: nothing is advised at its corners, and contact may come within the second
abbrev pub is_near : ModelData → AdvicesData → Cell → Bool
is_near m a c = is_clear_cell m a c && nat_eq c.n 0

-- how many cells there are of each kind
abbrev pub counts_of : ModelData → AdvicesData → (Cell → Outlook) → SafeCounts
counts_of m a found = record {
  safeable = count_by (λ c. is_looked_at m a c && is_safeable (found c)) (cells_of m);
  unshown = count_by (λ c. is_looked_at m a c && is_open (found c)) (cells_of m);
  near = count_by (is_near m a) (cells_of m);
}

-- the line of the counts
unfoldable pub counts_text : SafeCounts → List ℕ
counts_text counts =
    codes "safeable" ++ number_field counts.safeable ++ codes " open" ++ number_field counts.unshown
    ++ codes " near" ++ number_field counts.near ++ 10 ∷ []

-- the lines of the cells in order, and then the counts
unfoldable pub safeable_text : ModelData → AdvicesData → (Cell → Outlook) → List ℕ
safeable_text m a found = flat_map (cell_text m a found) (cells_of m) ++ counts_text (counts_of m a found)

-- the text says what is found of each cell that is looked at, and these are its counts
pub record IsSafeableReport (m : ModelData) (a : AdvicesData) (counts : SafeCounts) (text : List ℕ) : Type 0 where
  pub found : Cell → Outlook
  pub outlooks : AreOutlooks m a found
  pub counted : counts ≡ counts_of m a found
  pub printed : text ≡ safeable_text m a found

-- a proper prefix of such a text was printed
pub record IsSafeableBegun (m : ModelData) (a : AdvicesData) (old new : Option (List ℕ)) : Type 0 where
  pub found : Cell → Outlook
  pub outlooks : AreOutlooks m a found
  pub part : AppendsPart old new (safeable_text m a found)
