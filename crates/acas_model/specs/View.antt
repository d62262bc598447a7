-- What contracts see of the values that readers take and give.
use Rattle.std.specs.Prelude.{ℕ, List, map, String}
use Rattle.std.specs.Borrow.{Bor}
use Rattle.std.specs.BTreeMap.{BTreeMap}
use Rattle.std.specs.declared.alloc.Global.{Global}
use Rattle.toml.specs.Data.{Data, Members}
use Rattle.toml.specs.View.{view, table_view}
use Rattle.toml.specs.declared.value.Value.{Value}
use Rattle.acas_doc.specs.Values.{data_at}
use Rattle.acas_base.specs.View.{lists_of}
use Rattle.acas_model.specs.Choices.{Advised}
use Rattle.acas_model.specs.declared.choices.Advised as parts

-- the data of a list of values
abbrev pub data_of : List Value → List Data
data_of = map view

-- the data of the value at a place
abbrev pub item_at : List Value → ℕ → Data
item_at items place = data_at (data_of items) place

-- the keys of a table behind a reference
abbrev pub seen_table : Bor (BTreeMap (String Global) Value) → Members
seen_table t = table_view t.now

-- the advisories and what may be chosen under each
abbrev pub advised_view : parts.Advised → Advised
advised_view a = record { advisories = a.advisories.items; choices = lists_of a.choices }
