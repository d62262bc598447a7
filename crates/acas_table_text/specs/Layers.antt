-- The layers of a table that is given by present advisory and vertex.
use Rattle.std.specs.Prelude.{ℕ, ◌+◌, List, map}
use Rattle.std.specs.List.{range_with_len}
use Rattle.acas_spec.specs.Model.{GridData, states}
use Rattle.acas_spec.specs.Table.{Table}
use Rattle.acas_units.specs.declared.pair.Entry.{Entry}
use Rattle.acas_grid.specs.States.{state_present, state_vertex}
use Rattle.acas_table_text.specs.Shape.{shape_of}
use Rattle.acas_table_text.specs.Text.{text_of_layers}
use Rattle.acas_table_text.specs.declared.format.Format.{Format}

-- the entry of a state's number with n seconds to go
abbrev pub state_entry : GridData → Table → ℕ → ℕ → Entry
state_entry g t n state = record {
  pair = record {
    upper = t.upper n (state_present g state) (state_vertex g state);
    lower = t.lower n (state_present g state) (state_vertex g state);
  };
  advice = t.advice n (state_present g state) (state_vertex g state);
}

-- the entries of all states by number, with n seconds to go
abbrev pub layer_entries : GridData → Table → ℕ → List Entry
layer_entries g t n = map (state_entry g t n) (range_with_len 0 (states g))

-- the layers from 0 to the horizon
abbrev pub layers_of : GridData → Table → List (List Entry)
layers_of g t = map (layer_entries g t) (range_with_len 0 (g.horizon + 1))

-- the text of a table in a format, for the model whose text has this digest
abbrev pub table_text : Format → List ℕ → GridData → Table → List ℕ
table_text f digest g t = text_of_layers f digest (shape_of g) (layers_of g t)
