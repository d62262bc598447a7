-- A writer that has appended a header and layers.
use Rattle.std.specs.Prelude.{◌≡◌, ℕ, List, [], ◌∷◌, ◌++◌, length, Result, OnOk, OnErr, IsErr}
use Rattle.acas_units.specs.declared.pair.Entry.{Entry}
use Rattle.acas_outside.specs.Files.{Grows, GrowsPart}
use Rattle.acas_outside.specs.Frame.{OnlyWrites}
use Rattle.acas_outside.specs.declared.folder.Folder.{Ghosts as FolderMeanings}
use Rattle.acas_table_text.specs.Text.{header}
use Rattle.acas_table_text.specs.Growth.{base, ending, layer_bytes}
use Rattle.acas_table_writer.specs.Pieces.{Holds}
use Rattle.acas_table_text.specs.declared.format.Format.{Format}
use Rattle.acas_table_text.specs.declared.shape.TableShape.{TableShape}
use Rattle.acas_table_writer.specs.declared.writer.Phase.{Phase}
use Rattle.acas_table_writer.specs.declared.writer.Phase.TheVariants.{New}
use Rattle.acas_table_writer.specs.declared.writer.TableWriter.{TableWriter}

-- what is seen of a writer
pub record WriterState : Type 0 where
  pub format : Format
  pub shape : TableShape
  -- the header's bytes
  pub head : List ℕ
  -- how many layers it was given
  pub given : ℕ
  pub phase : Phase

abbrev pub writer_state : TableWriter → WriterState
writer_state w = record {
  format = w.format;
  shape = w.shape;
  head = w.head.items;
  given = w.given;
  phase = w.phase;
}

-- a new writer of tables of a shape, for the model whose text has this digest
abbrev pub new_writer : Format → List ℕ → TableShape → WriterState
new_writer f digest s = record {
  format = f;
  shape = s;
  head = header f digest s;
  given = 0;
  phase = New;
}

-- the writer was given these layers, and its digest is over what it is to be over behind them
pub record HasWritten (w : TableWriter) (layers : List (List Entry)) : Type 0 where
  pub hashed : Holds w.pieces (base w.format w.head.items layers)
  pub count : length layers ≡ w.given

-- what a writer of these layers appends for one more
abbrev pub next_bytes : WriterState → List (List Entry) → List Entry → List ℕ
next_bytes w layers layer = layer_bytes w.format (base w.format w.head layers) layer

-- and what it appends at the end
abbrev pub last_bytes : WriterState → List (List Entry) → List ℕ
last_bytes w layers = ending w.format (base w.format w.head layers)

-- a call of a writer that appends one more layer, or where it failed the first of its bytes and not all
pub record AppendsLayer {F X E : Type 0} (d : FolderMeanings F) (old new : F) (name : List ℕ) (before now : TableWriter)
    (layer : List Entry) (result : Result X E) : Type 0 where
  pub ok : (layers : List (List Entry)) → HasWritten before layers → OnOk result
      (Grows (d.holds old) (d.holds new) name (next_bytes (writer_state before) layers layer))
  pub err : (layers : List (List Entry)) → HasWritten before layers → OnErr result
      (GrowsPart (d.holds old) (d.holds new) name (next_bytes (writer_state before) layers layer))
  pub written : (layers : List (List Entry)) → HasWritten before layers
      → OnOk result (HasWritten now (layers ++ layer ∷ []))
  pub frame : OnlyWrites d old new (IsErr result)
