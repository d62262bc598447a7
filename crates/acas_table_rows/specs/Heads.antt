-- What the lines of neighbouring states begin with.
use Rattle.std.specs.Prelude.{◌≡◌, ◌≢◌, ℕ, ◌≤◌, ℤ, List, [], ◌∷◌, ◌++◌, length}
use Rattle.std.specs.Fmt.{decimal, signed_decimal}
use Rattle.acas_outside.specs.Printed.{millionths_text}
use Rattle.acas_spec.specs.Axis.{place_value}
use Rattle.acas_spec.specs.Model.{ModelData, advisory_at}
use Rattle.acas_command.specs.Fields.{feet, field}
use Rattle.acas_grid.specs.States.{state_present, state_vertex}
use Rattle.acas_table_rows.specs.ValuesText.{advice_text}

-- the first fields of a line: seconds to go, present advisory, altitude in feet and own rate, by the places i and j
unfoldable pub line_head : ModelData → ℕ → ℕ → ℕ → ℕ → List ℕ
line_head m n p i j =
    field (decimal n)
    ++ field (advisory_at m p).name
    ++ field (signed_decimal (feet (place_value m.grid.h i)))
    ++ field (signed_decimal (place_value m.grid.v0 j))

-- a line that begins so, with the fields behind that: the intruder's rate by its place k, lower value, upper value, advice
abbrev pub line_behind : ModelData → ℕ → ℕ → ℤ → ℤ → ℕ → List ℕ → List ℕ
line_behind m n k lower upper advice head =
    head
    ++ field (signed_decimal (place_value m.grid.v1 k))
    ++ field (millionths_text lower)
    ++ field (millionths_text upper)
    ++ advice_text m n advice
    ++ 10 ∷ []

-- the bytes are what the line of a state begins with, by its number
pub record BeginsLine (m : ModelData) (n s : ℕ) (head : List ℕ) : Type 0 where
  pub same : head ≡ line_head m n (state_present m.grid s) (state_vertex m.grid s).i (state_vertex m.grid s).j
  pub short : length head ≤ 128

-- they are, unless the state is at the first place of the axis of intruder rate
abbrev pub HasHead : ModelData → ℕ → ℕ → List ℕ → Type 0
HasHead m n s head = (state_vertex m.grid s).k ≢ 0 → BeginsLine m n s head
