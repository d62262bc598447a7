-- Tables as layers of entries.
use Rattle.std.specs.Prelude.{◌≡◌, ℕ, ◌+◌, ◌*◌, ◌<◌, pos, List, [], length, get_or, map, None, FitsSigned}
use Rattle.std.specs.Int.{w64}
use Rattle.std.specs.List.{range_with_len}
use Rattle.acas_units.specs.declared.pair.Entry.{Entry}
use Rattle.acas_table_text.specs.Shape.{IsShape}
use Rattle.acas_table_text.specs.Text.{entry_at, text_of_layers}
use Rattle.acas_table_text.specs.Faults.{advice_fault}
use Rattle.acas_table_text.specs.declared.format.Format.TheVariants.{Layered}
use Rattle.acas_table_text.specs.declared.shape.TableShape.{TableShape}

abbrev pub no_entry : Entry
no_entry = record { pair = record { upper = pos 0; lower = pos 0 }; advice = 0 }

-- the entry of a state in the layer with n seconds to go
abbrev pub entry_of_state : List (List Entry) → ℕ → ℕ → Entry
entry_of_state layers n state = get_or (get_or layers n []) state no_entry

-- there is an entry for each state of each layer, its values fit 64 bits, and its advice is 255 in layer 0 and an
-- advisory above it
pub record IsTable (digest : List ℕ) (s : TableShape) (layers : List (List Entry)) : Type 0 where
  pub digest_is : length digest ≡ 32
  pub shape : IsShape s
  pub count : length layers ≡ s.horizon + 1
  pub states : (n : ℕ) → n < s.horizon + 1 → length (get_or layers n []) ≡ s.states
  pub upper : (n state : ℕ) → n < s.horizon + 1 → state < s.states
      → FitsSigned w64 (entry_of_state layers n state).pair.upper
  pub lower : (n state : ℕ) → n < s.horizon + 1 → state < s.states
      → FitsSigned w64 (entry_of_state layers n state).pair.lower
  pub advice : (n state : ℕ) → n < s.horizon + 1 → state < s.states
      → advice_fault s (n * s.states + state) (entry_of_state layers n state).advice ≡ None

-- the layer with n seconds to go, as a file has it
abbrev pub layer_at : TableShape → List ℕ → ℕ → List Entry
layer_at s bytes n = map (λ state. entry_at s bytes (n * s.states + state)) (range_with_len 0 s.states)

-- the layers that a file has
abbrev pub layers_at : TableShape → List ℕ → List (List Entry)
layers_at s bytes = map (layer_at s bytes) (range_with_len 0 (s.horizon + 1))

-- the text in version 2 of the table that a file has
abbrev pub as_layered : List ℕ → TableShape → List ℕ → List ℕ
as_layered digest s bytes = text_of_layers Layered digest s (layers_at s bytes)
