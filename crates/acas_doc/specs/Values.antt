-- A value as a whole number, a text, a list or a table, or what is wrong with it.
use Rattle.std.specs.Prelude.{ℕ, List, [], ◌∷◌, length, get_or, ℤ, pos, int_le, nat_le, false, ◌&&◌, if◌then◌else◌, Option, Some, None, Result, Ok, Err}
use Rattle.toml.specs.Data.{Data, Items, no_items, item, Members, boolean, as_integer, as_str, as_array, as_table}
use Rattle.acas_spec.specs.Steps.{◌>>=◌, ◌>>◌}
use Rattle.acas_doc.specs.declared.fault.DocKind.{DocKind}
use Rattle.acas_doc.specs.declared.fault.DocKind.TheVariants.{WrongKind, OutOfRange}

-- what is there, or this fault
abbrev pub or_fault : {A E : Type 0} → E → Option A → Result A E
or_fault fault None = Err fault
or_fault fault (Some x) = Ok x

-- a number from least to greatest
abbrev pub in_range : ℤ → ℤ → ℤ → Result ℤ DocKind
in_range least greatest z = if int_le least z && int_le z greatest then Ok z else Err (OutOfRange z least greatest)

-- an integer from least to greatest
abbrev pub whole_of : ℤ → ℤ → Data → Result ℤ DocKind
whole_of least greatest d = or_fault WrongKind (as_integer d) >>= in_range least greatest

-- the bytes of a string
abbrev pub text_of : Data → Result (List ℕ) DocKind
text_of d = or_fault WrongKind (as_str d)

-- the keys of a table with their values
abbrev pub table_of : Data → Result Members DocKind
table_of d = or_fault WrongKind (as_table d)

-- the items of an array, as a list
abbrev pub items_list : Items → List Data
items_list no_items = []
items_list (item d ds) = d ∷ items_list ds

-- a length from least to greatest
abbrev pub length_in_range : ℕ → ℕ → ℕ → Result (Unit {0}) DocKind
length_in_range least greatest n = if nat_le least n && nat_le n greatest then Ok tt else Err (OutOfRange (pos n) (pos least) (pos greatest))

-- a list of such a length
abbrev pub sized : ℕ → ℕ → List Data → Result (List Data) DocKind
sized least greatest ds = length_in_range least greatest (length ds) >> Ok ds

-- an array of such a length
abbrev pub list_of : ℕ → ℕ → Data → Result (List Data) DocKind
list_of least greatest d = or_fault WrongKind (as_array d) >>= λ ds. sized least greatest (items_list ds)

-- the item at a place; no reader asks for one past the end
abbrev pub data_at : List Data → ℕ → Data
data_at ds place = get_or ds place (boolean false)
