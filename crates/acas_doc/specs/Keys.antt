-- The value at a key of a table, or at a place of a list, or what is wrong with it and where.
use Rattle.std.specs.Prelude.{ℕ, List, [], length, ℤ, Result}
use Rattle.toml.specs.Data.{Data, Members, get_member}
use Rattle.acas_spec.specs.Steps.{◌>>=◌, each}
use Rattle.acas_doc.specs.declared.fault.DocKind.{DocKind}
use Rattle.acas_doc.specs.declared.fault.DocKind.TheVariants.{Missing}
use Rattle.acas_doc.specs.declared.fault.DocFault.{DocFault}
use Rattle.acas_doc.specs.Paths.{key_path, item_path, at_path}
use Rattle.acas_doc.specs.Values.{or_fault, whole_of, text_of, list_of, table_of}

-- the value at a key
abbrev pub found : Members → List ℕ → Result Data DocKind
found ms key = or_fault Missing (get_member key ms)

-- the value at a key, of the kind that is wanted
abbrev pub found_whole : Members → List ℕ → ℤ → ℤ → Result ℤ DocKind
found_whole ms key least greatest = found ms key >>= whole_of least greatest

abbrev pub found_text : Members → List ℕ → Result (List ℕ) DocKind
found_text ms key = found ms key >>= text_of

abbrev pub found_list : Members → List ℕ → ℕ → ℕ → Result (List Data) DocKind
found_list ms key least greatest = found ms key >>= list_of least greatest

abbrev pub found_table : Members → List ℕ → Result Members DocKind
found_table ms key = found ms key >>= table_of

-- the same, with the path of the key at a fault
unfoldable pub whole_at : Members → List ℕ → List ℕ → ℤ → ℤ → Result ℤ DocFault
whole_at ms path key least greatest = at_path (key_path path key) (found_whole ms key least greatest)

unfoldable pub text_at : Members → List ℕ → List ℕ → Result (List ℕ) DocFault
text_at ms path key = at_path (key_path path key) (found_text ms key)

unfoldable pub list_at : Members → List ℕ → List ℕ → ℕ → ℕ → Result (List Data) DocFault
list_at ms path key least greatest = at_path (key_path path key) (found_list ms key least greatest)

unfoldable pub table_at : Members → List ℕ → List ℕ → Result Members DocFault
table_at ms path key = at_path (key_path path key) (found_table ms key)

-- an item of the list at a path, with the path of the item at a fault
unfoldable pub whole_item : List ℕ → ℕ → ℤ → ℤ → Data → Result ℤ DocFault
whole_item path place least greatest d = at_path (item_path path place) (whole_of least greatest d)

-- each item of the list is a whole number from least to greatest
unfoldable pub whole_items : List ℕ → ℤ → ℤ → List Data → Result (List ℤ) DocFault
whole_items path least greatest ds = each (λ before d. whole_item path (length before) least greatest d) [] ds

unfoldable pub text_item : List ℕ → ℕ → Data → Result (List ℕ) DocFault
text_item path place d = at_path (item_path path place) (text_of d)

unfoldable pub table_item : List ℕ → ℕ → Data → Result Members DocFault
table_item path place d = at_path (item_path path place) (table_of d)
