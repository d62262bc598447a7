-- A writer of a table that takes the layers of a sweep.
use Rattle.std.specs.Prelude.{◌≡◌, ℕ, ◌+◌, ◌-◌, Bool, true, List, [], ◌∷◌, ◌++◌, ⊤}
use Rattle.acas_units.specs.declared.pair.Entry.{Entry}
use Rattle.acas_outside.specs.Files.{Grows, GrowsPart}
use Rattle.acas_outside.specs.Frame.{OnlyWrites}
use Rattle.acas_outside.specs.declared.folder.Folder.{Ghosts as FolderMeanings}
use Rattle.acas_sweep.specs.Handed.{LayerData}
use Rattle.acas_table_text.specs.Text.{layer_of}
use Rattle.acas_table_writer.specs.Writer.{HasWritten, next_bytes, writer_state}
use Rattle.acas_table_writer.specs.declared.writer.Phase.{Phase}
use Rattle.acas_table_writer.specs.declared.writer.Phase.TheVariants.{Started}
use Rattle.acas_table_rows.specs.BegunWriter.{is_held}
use Rattle.acas_table_rows.specs.declared.table_rows.TableRows.{TableRows}

-- so many layers, where a writer has begun and the name that it writes to is served and held, and else none
abbrev pub takes_layers : Phase → Bool → Bool → ℕ → ℕ
takes_layers Started true true count = count
takes_layers phase served held count = 0

module _ {F : Type 0} (f : FolderMeanings F) where
  -- how many more layers the rows take
  abbrev pub rows_left : TableRows F → ℕ
  rows_left rows =
      let w = writer_state rows.begun.now.writer in
      takes_layers w.phase (f.serves rows.folder.now rows.name.now) (is_held (f.holds rows.folder.now) rows.name.now) (w.shape.horizon + 1 - w.given)

  -- the writer appended a layer to its file
  pub record AddsRow (before : TableRows F) (layer : LayerData) (after : TableRows F) : Type 0 where
    pub same_writer : after.begun.ghost_name ≡ before.begun.ghost_name
    pub same_folder : after.folder.ghost_name ≡ before.folder.ghost_name
    pub name : after.name.now ≡ before.name.now
    pub state : let w = writer_state before.begun.now.writer in writer_state after.begun.now.writer ≡ record w { given = w.given + 1 }
    pub written : (layers : List (List Entry)) → HasWritten before.begun.now.writer layers → HasWritten after.begun.now.writer (layers ++ layer_of layer.pairs layer.advice ∷ [])
    pub grown : (layers : List (List Entry)) → HasWritten before.begun.now.writer layers
        → Grows (f.holds before.folder.now) (f.holds after.folder.now) before.name.now (next_bytes (writer_state before.begun.now.writer) layers (layer_of layer.pairs layer.advice))
    pub frame : OnlyWrites f before.folder.now after.folder.now ⊥

  -- it appended the layer in part
  pub record CutsRow (before : TableRows F) (layer : LayerData) (after : TableRows F) : Type 0 where
    pub same_writer : after.begun.ghost_name ≡ before.begun.ghost_name
    pub same_folder : after.folder.ghost_name ≡ before.folder.ghost_name
    pub grown : (layers : List (List Entry)) → HasWritten before.begun.now.writer layers
        → GrowsPart (f.holds before.folder.now) (f.holds after.folder.now) before.name.now (next_bytes (writer_state before.begun.now.writer) layers (layer_of layer.pairs layer.advice))
    pub frame : OnlyWrites f before.folder.now after.folder.now ⊤
