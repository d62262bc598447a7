-- The list `advisory`: the names and intervals of the advisories.
use Rattle.std.specs.Prelude.{ℕ, List, [], length, codes, int_le, if◌then◌else◌, Option, None, Result, Ok, Err}
use Rattle.std.specs.List.{list_any}
use Rattle.std.specs.Str.{bytes_eq}
use Rattle.toml.specs.Data.{Data, Members}
use Rattle.acas_units.specs.declared.limits.TheConstants.{LEAST_RATE, GREATEST_RATE}
use Rattle.acas_spec.specs.Steps.{◌>>=◌, ◌>>◌, each}
use Rattle.acas_spec.specs.Limits.{is_name}
use Rattle.acas_spec.specs.declared.parts.Advisory.{Advisory}
use Rattle.acas_doc.specs.declared.fault.DocKind.TheVariants.{WrongKind}
use Rattle.acas_doc.specs.Keys.{text_at, whole_at, table_item}
use Rattle.acas_doc.specs.Known.{only_known}
use Rattle.acas_doc.specs.Paths.{key_path, item_path}
use Rattle.acas_model.specs.declared.fault.NamePlace.{NamePlace}
use Rattle.acas_model.specs.declared.fault.ModelFault.{ModelFault}
use Rattle.acas_model.specs.declared.fault.ModelFault.TheVariants.{Doc, Interval, RepeatedName}
use Rattle.acas_model.specs.Document.{in_doc}

-- a text that is no name is of the wrong kind
unfoldable pub name_at : Members → List ℕ → Result (List ℕ) ModelFault
name_at table path = do
  name ← in_doc (text_at table path (codes "name"))
  if is_name name then Ok name else Err (Doc (record { key = key_path path (codes "name"); kind = WrongKind }))

-- the table of an advisory: its keys, its name, the ends of its interval, and that they are in order
unfoldable pub advisory_of : Members → List ℕ → ℕ → Result Advisory ModelFault
advisory_of table path place = do
  in_doc (only_known path (codes "name lo hi choices costs") table)
  name ← name_at table path
  lo ← in_doc (whole_at table path (codes "lo") LEAST_RATE GREATEST_RATE)
  hi ← in_doc (whole_at table path (codes "hi") LEAST_RATE GREATEST_RATE)
  if int_le lo hi then Ok (record { name = name; lo = lo; hi = hi }) else Err (Interval place)

-- an item of the list is such a table
unfoldable pub advisory_item : ℕ → Data → Result Advisory ModelFault
advisory_item place d = do
  table ← in_doc (table_item (codes "advisory") place d)
  advisory_of table (item_path (codes "advisory") place) place

-- each item of the list is one
unfoldable pub advisory_items : List Data → Result (List Advisory) ModelFault
advisory_items ds = each (λ before d. advisory_item (length before) d) [] ds

-- the place of an advisory's name, or that of one of its choices
abbrev pub name_place : ℕ → Option ℕ → NamePlace
name_place advisory choice = record { advisory = advisory; choice = choice }

-- an advisory whose name does not stand before it
unfoldable pub new_name : List Advisory → Advisory → Result Advisory ModelFault
new_name before a =
    if list_any (λ b. bytes_eq b.name a.name) before then Err (RepeatedName (name_place (length before) None))
    else Ok a

-- the names differ
unfoldable pub distinct : List Advisory → Result (List Advisory) ModelFault
distinct advisories = each new_name [] advisories
