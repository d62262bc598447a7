-- The lines of `values`.
use Rattle.std.specs.Prelude.{ℕ, nat_lt, ◌+◌, ◌&&◌, if◌then◌else◌, ℤ, List, [], ◌∷◌, ◌++◌, get_or}
use Rattle.std.specs.Fmt.{decimal}
use Rattle.acas_spec.specs.Model.{ModelData, advisory_at, states}
use Rattle.acas_outside.specs.Printed.{millionths_text}
use Rattle.acas_command.specs.Fields.{field, state_fields}
use Rattle.acas_outside.specs.Printing.{below}
use Rattle.acas_grid.specs.States.{state_present, state_vertex}
use Rattle.acas_spec.specs.declared.place.Vertex.{Vertex}
use Rattle.acas_spec.specs.Table.{Table}
use Rattle.acas_process.specs.Compiled.{compiled}
use Rattle.acas_means.specs.Layer.{pair_at}
use Rattle.acas_sweep.specs.Handed.{LayerData}

-- the advice by name; there is none with no second to go, and where its number is no advisory's
unfoldable pub advice_text : ModelData → ℕ → ℕ → List ℕ
advice_text m n advice =
    if nat_lt 0 n && nat_lt advice m.grid.advisories then (advisory_at m advice).name else 45 ∷ []

-- the line of an entry: seconds to go, the fields of its state, lower value, upper value, advice
unfoldable pub entry_line : ModelData → ℕ → ℕ → Vertex → ℤ → ℤ → ℕ → List ℕ
entry_line m n p x lower upper advice =
    field (decimal n)
    ++ state_fields m p x
    ++ field (millionths_text lower)
    ++ field (millionths_text upper)
    ++ advice_text m n advice
    ++ 10 ∷ []

-- the line of a table's entry
abbrev pub table_line : ModelData → Table → ℕ → ℕ → Vertex → List ℕ
table_line m t n p x = entry_line m n p x (t.lower n p x) (t.upper n p x) (t.advice n p x)

-- the line of a state by its number
abbrev pub state_line : ModelData → Table → ℕ → ℕ → List ℕ
state_line m t n state = table_line m t n (state_present m.grid state) (state_vertex m.grid state)

-- the lines of all states with n seconds to go
abbrev pub layer_lines : ModelData → Table → ℕ → List ℕ
layer_lines m t n = below (states m.grid) (state_line m t n)

-- the line of a state by its number, by the lists of a layer
abbrev pub listed_line : ModelData → LayerData → ℕ → List ℕ
listed_line m layer state =
    let pair = pair_at layer.pairs state in
    entry_line m layer.n (state_present m.grid state) (state_vertex m.grid state) pair.lower pair.upper (get_or layer.advice state 0)

-- the lines of all states, by the lists of a layer
abbrev pub listed_lines : ModelData → LayerData → List ℕ
listed_lines m layer = below (states m.grid) (listed_line m layer)

-- all lines of a table, from layer 0 to the horizon
abbrev pub table_lines : ModelData → Table → List ℕ
table_lines m t = below (m.grid.horizon + 1) (layer_lines m t)

-- what `values` prints for a model: the lines of its compiled table
unfoldable pub values_text : ModelData → List ℕ
values_text m = table_lines m (compiled m)
