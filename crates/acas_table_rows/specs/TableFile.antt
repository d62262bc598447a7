-- A writer that has appended the first layers of a table in version 2.
use Rattle.std.specs.Prelude.{◌≡◌, ℕ, ◌+◌, List, map}
use Rattle.std.specs.List.{range_with_len}
use Rattle.acas_spec.specs.Model.{ModelData}
use Rattle.acas_units.specs.declared.pair.Entry.{Entry}
use Rattle.acas_process.specs.Compiled.{compiled}
use Rattle.acas_base.specs.Layers.{LayersData, advice_of, pairs_of}
use Rattle.acas_table_text.specs.Layers.{layer_entries, table_text}
use Rattle.acas_table_text.specs.Shape.{shape_of}
use Rattle.acas_table_text.specs.Growth.{front}
use Rattle.acas_table_text.specs.Text.{header, layer_of, text_of_layers}
use Rattle.acas_table_text.specs.declared.format.Format.TheVariants.{Layered}
use Rattle.acas_table_text.specs.declared.shape.TableShape.{TableShape}
use Rattle.acas_table_writer.specs.Writer.{HasWritten, new_writer, writer_state}
use Rattle.acas_table_writer.specs.declared.writer.Phase.TheVariants.{Started}
use Rattle.acas_table_writer.specs.declared.writer.TableWriter.{TableWriter}

-- the text of the compiled table of a model whose text has this digest
abbrev pub compiled_text : List ℕ → ModelData → List ℕ
compiled_text digest m = table_text Layered digest m.grid (compiled m)

-- the entries of a layer of it
abbrev pub compiled_entries : ModelData → ℕ → List Entry
compiled_entries m n = layer_entries m.grid (compiled m) n

-- the entries of a layer at hand
abbrev pub entries_of : LayersData → ℕ → List Entry
entries_of layers n = layer_of (pairs_of layers n) (advice_of layers n)

-- the first n of layers that are given by number
abbrev pub first_layers : (ℕ → List Entry) → ℕ → List (List Entry)
first_layers layer n = map layer (range_with_len 0 n)

-- the text of the layers from 0 to the horizon
abbrev pub text_of_all : List ℕ → TableShape → (ℕ → List Entry) → List ℕ
text_of_all digest s layer = text_of_layers Layered digest s (first_layers layer (s.horizon + 1))

-- and that up to the first n of them
abbrev pub first_part : List ℕ → TableShape → (ℕ → List Entry) → ℕ → List ℕ
first_part digest s layer n = front Layered (header Layered digest s) (first_layers layer n)

-- the writer was given the first n layers
pub record IsWriting (digest : List ℕ) (s : TableShape) (layer : ℕ → List Entry) (n : ℕ) (w : TableWriter) : Type 0 where
  pub state : writer_state w ≡ record (new_writer Layered digest s) { given = n; phase = Started }
  pub written : HasWritten w (first_layers layer n)

-- the text of the compiled table up to its first n layers, and a writer that was given them
abbrev pub compiled_part : List ℕ → ModelData → ℕ → List ℕ
compiled_part digest m n = first_part digest (shape_of m.grid) (compiled_entries m) n

abbrev pub IsCompiling : List ℕ → ModelData → ℕ → TableWriter → Type 0
IsCompiling digest m n w = IsWriting digest (shape_of m.grid) (compiled_entries m) n w
