-- The lists `choices` and `costs` of each advisory.
use Rattle.std.specs.Prelude.{ℕ, ◌-◌, ◌^◌, List, [], length, map, codes, ℤ, ◌==◌, if◌then◌else◌, Option, Some, Result, Ok, Err, position, zip}
use Rattle.std.specs.List.{list_any}
use Rattle.std.specs.Str.{bytes_eq}
use Rattle.toml.specs.Data.{Data, Members}
use Rattle.acas_units.specs.declared.limits.TheConstants.{LEAST_COST, GREATEST_COST, LEAST_ADVISORIES, GREATEST_ADVISORIES}
use Rattle.acas_spec.specs.Steps.{◌>>=◌, ◌>>◌, each}
use Rattle.acas_spec.specs.declared.parts.Advisory.{Advisory}
use Rattle.acas_spec.specs.declared.parts.Choice.{Choice}
use Rattle.acas_doc.specs.Keys.{list_at, whole_items, text_item, table_item}
use Rattle.acas_doc.specs.Values.{or_fault, data_at}
use Rattle.acas_doc.specs.Paths.{key_path, item_path}
use Rattle.acas_model.specs.declared.fault.ModelFault.{ModelFault}
use Rattle.acas_model.specs.declared.fault.ModelFault.TheVariants.{NoChoice, UnknownName, RepeatedName}
use Rattle.acas_model.specs.Document.{in_doc}
use Rattle.acas_model.specs.Advisories.{advisory_items, distinct, name_place}

-- the number of the advisory of this name
abbrev pub named : List Advisory → List ℕ → Option ℕ
named advisories name = position (λ a. bytes_eq a.name name) advisories

-- a choice that does not stand before it in the list
abbrev pub first_time : ℕ → List ℕ → ℕ → Result ℕ ModelFault
first_time advisory before a =
    if list_any (λ b. b == a) before then Err (RepeatedName (name_place advisory (Some (length before))))
    else Ok a

-- a choice is a text, an advisory's name, and stands here for the first time
unfoldable pub choice_item : List Advisory → List ℕ → ℕ → List ℕ → Data → Result ℕ ModelFault
choice_item advisories path advisory before d = do
  name ← in_doc (text_item path (length before) d)
  a ← or_fault (UnknownName (name_place advisory (Some (length before)))) (named advisories name)
  first_time advisory before a

-- the choice of a list after those before it
abbrev pub next_choice : List Advisory → List ℕ → ℕ → List ℕ → List Data → Result ℕ ModelFault
next_choice advisories path advisory before ds =
    choice_item advisories path advisory before (data_at ds (length before))

-- the numbers of the advisories that a list names
unfoldable pub choice_items : List Advisory → List ℕ → ℕ → List Data → Result (List ℕ) ModelFault
choice_items advisories path advisory ds = each (choice_item advisories path advisory) [] ds

-- each choice with its cost
abbrev pub choices_from : List ℕ → List ℤ → List Choice
choices_from chosen costs = map (λ p. record { advisory = p.0; cost = p.1 }) (zip chosen costs)

-- something may be chosen
abbrev pub some_choice : ℕ → ℕ → Result (Unit {0}) ModelFault
some_choice advisory count = if count == 0 then Err (NoChoice advisory) else Ok tt

-- a list of so many costs; each cost
unfoldable pub costs_of : Members → List ℕ → ℕ → Result (List ℤ) ModelFault
costs_of table path count = do
  items ← in_doc (list_at table path (codes "costs") count count)
  in_doc (whole_items (key_path path (codes "costs")) LEAST_COST GREATEST_COST items)

-- a list of choices, not empty; each choice; as many costs
unfoldable pub choices_of : List Advisory → Members → List ℕ → ℕ → Result (List Choice) ModelFault
choices_of advisories table path advisory = do
  items ← in_doc (list_at table path (codes "choices") 0 (2 ^ 32 - 1))
  some_choice advisory (length items)
  chosen ← choice_items advisories (key_path path (codes "choices")) advisory items
  costs ← costs_of table path (length items)
  Ok (choices_from chosen costs)

-- what may be chosen under the advisory at a place of the list `advisory`
unfoldable pub choices_item : List Advisory → ℕ → Data → Result (List Choice) ModelFault
choices_item advisories place d = do
  table ← in_doc (table_item (codes "advisory") place d)
  choices_of advisories table (item_path (codes "advisory") place) place

-- what may be chosen under each advisory
unfoldable pub choice_lists : List Advisory → List Data → Result (List (List Choice)) ModelFault
choice_lists advisories ds = each (λ before d. choices_item advisories (length before) d) [] ds

-- the advisories by number, and what may be chosen under each
pub record Advised : Type 0 where
  pub advisories : List Advisory
  pub choices : List (List Choice)

-- the list, of a length within the limits; each advisory; that the names differ; the choices of each advisory
unfoldable pub advised_of : Members → Result Advised ModelFault
advised_of doc = do
  items ← in_doc (list_at doc [] (codes "advisory") LEAST_ADVISORIES GREATEST_ADVISORIES)
  advisories ← advisory_items items
  distinct advisories
  choices ← choice_lists advisories items
  Ok (record { advisories = advisories; choices = choices })
