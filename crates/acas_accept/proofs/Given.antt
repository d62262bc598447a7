-- The layers of a table, and of the table that bytes are read as.
use Rattle.std.proofs.Common.{◌≡◌, ℕ, ◌+◌, ◌*◌, ◌<◌, List, [], length, get_or, ◌∙◌, ap, arith}
use Rattle.std.proofs.lemmas.List.FromFn.{fill_by_all, length-map-range_with_len, get_or-map-range_with_len}
use Rattle.acas_spec.specs.Model.{GridData, states}
use Rattle.acas_units.specs.declared.pair.Entry.{Entry}
use Rattle.acas_spec.specs.Table.{Table}
use Rattle.acas_grid.specs.States.{state_present, state_vertex}
use Rattle.acas_table_text.specs.Layers.{layer_entries, layers_of, state_entry}
use Rattle.acas_table_text.specs.Shape.{shape_of}
use Rattle.acas_table_text.specs.Tables.{entry_of_state, layer_at, layers_at, no_entry}
use Rattle.acas_table_text.specs.Text.{entry_at}
use Rattle.acas_accept.specs.GivenTable.{entry_place, given_entry, given_table}
use Rattle.acas_grid.proofs.StateNumbers.{state_number-parts}

-- the entry of a state by its number
pub given-place : (g : GridData) (bytes : List ℕ) (n state : ℕ) → given_entry g bytes n (state_present g state) (state_vertex g state) ≡ entry_at (shape_of g) bytes (entry_place g n state)
given-place g bytes n state = ap (λ (k : ℕ). entry_at (shape_of g) bytes (n * states g + k)) (state_number-parts g state)

-- ---- the layers of a table

pub length-layers : (g : GridData) (t : Table) → length (layers_of g t) ≡ g.horizon + 1
length-layers g t = length-map-range_with_len (layer_entries g t) 0 (g.horizon + 1)

pub length-layer : (g : GridData) (t : Table) (n : ℕ) → length (layer_entries g t n) ≡ states g
length-layer g t n = length-map-range_with_len (state_entry g t n) 0 (states g)

pub layers-at : (g : GridData) (t : Table) (n : ℕ) → n < g.horizon + 1 → get_or (layers_of g t) n [] ≡ layer_entries g t n
layers-at g t n seconds = get_or-map-range_with_len (layer_entries g t) 0 (g.horizon + 1) n n [] seconds (omega arith)

layer-at : (g : GridData) (t : Table) (n state : ℕ) → state < states g → get_or (layer_entries g t n) state no_entry ≡ state_entry g t n state
layer-at g t n state inside = get_or-map-range_with_len (state_entry g t n) 0 (states g) state state no_entry inside (omega arith)

pub entry-at : (g : GridData) (t : Table) (n state : ℕ) → n < g.horizon + 1 → state < states g → entry_of_state (layers_of g t) n state ≡ state_entry g t n state
entry-at g t n state seconds inside = ap (λ (layer : List Entry). get_or layer state no_entry) (layers-at g t n seconds) ∙ layer-at g t n state inside

-- ---- of the table that bytes are read as

layer-given : (g : GridData) (bytes : List ℕ) (n : ℕ) → layer_entries g (given_table g bytes) n ≡ layer_at (shape_of g) bytes n
layer-given g bytes n =
    fill_by_all (λ (state : ℕ). entry_at (shape_of g) bytes (entry_place g n state)) (layer_entries g (given_table g bytes) n) (states g) no_entry (length-layer g (given_table g bytes) n)
    (λ state inside. layer-at g (given_table g bytes) n state inside ∙ given-place g bytes n state)

-- they are those that the bytes have
pub layers-given : (g : GridData) (bytes : List ℕ) → layers_of g (given_table g bytes) ≡ layers_at (shape_of g) bytes
layers-given g bytes =
    fill_by_all (layer_at (shape_of g) bytes) (layers_of g (given_table g bytes)) (g.horizon + 1) [] (length-layers g (given_table g bytes))
    (λ n seconds. layers-at g (given_table g bytes) n seconds ∙ layer-given g bytes n)
