-- A reader that has read the front of a file.
use Rattle.std.specs.Prelude.{◌≡◌, ℕ, ◌+◌, ◌≤◌, List, [], ◌∷◌, Bool, false, Option, Some, None, IfSome, Result, Ok, Err, IsErrOf, ⊤}
use Rattle.acas_outside.specs.Counts.{raised}
use Rattle.acas_outside.specs.Files.{Files, Given}
use Rattle.acas_outside.specs.Frame.{OnlyReads}
use Rattle.acas_outside.specs.Once.{TakesOnce}
use Rattle.acas_outside.specs.declared.folder.Folder.{Ghosts as FolderMeanings}
use Rattle.acas_units.specs.declared.pair.Entry.{Entry}
use Rattle.acas_table_text.specs.Format.{expected_length, format_of, length_of}
use Rattle.acas_table_text.specs.Text.{entry_at, text_of_layers}
use Rattle.acas_table_text.specs.Faults.{header_fault, entry_fault, first_below, tail_fault, first_fault}
use Rattle.acas_table.specs.Source.{IsAt, StaysWithin, Takes, bytes_taken}
use Rattle.acas_table_text.specs.Tables.{layers_at}
use Rattle.acas_table_text.specs.declared.format.Format.{Format}
use Rattle.acas_table_text.specs.declared.format.Format.TheVariants.{Layered}
use Rattle.acas_table_text.specs.declared.shape.TableShape.{TableShape}
use Rattle.acas_table.specs.declared.reader.TableReader.{TableReader}
use Rattle.acas_table_text.specs.declared.fault.TableFault.{TableFault}
use Rattle.acas_table_text.specs.declared.fault.TableFault.TheVariants.{Failed, Absent, Memory}

-- what is seen of a reader
pub record ReaderState : Type 0 where
  pub shape : TableShape
  pub format : Format
  -- how many entries it gave
  pub given : ℕ
  -- how many bytes it took
  pub taken : ℕ
  pub fault : Option TableFault
  -- a finish answered Ok
  pub done : Bool

abbrev pub reader_state : TableReader → ReaderState
reader_state r = record {
  shape = r.shape;
  format = r.format;
  given = r.given;
  taken = bytes_taken r.source;
  fault = r.fault;
  done = r.done;
}

-- a reader of tables of a shape that gave no entry yet and found no fault
pub record IsNew (s : TableShape) (r : ReaderState) : Type 0 where
  pub shape : r.shape ≡ s
  pub given : r.given ≡ 0
  pub no_fault : r.fault ≡ None
  pub not_done : r.done ≡ false

-- the reader stands in these bytes: it has read the header and, in the format that the bytes have, the entries that it
-- gave and the digests between them, which have no fault
pub record HasRead (digest : List ℕ) (r : TableReader) (bytes : List ℕ) : Type 0 where
  pub format : format_of bytes ≡ r.format
  pub header : header_fault digest r.shape bytes ≡ None
  pub entries : first_below (entry_fault r.shape bytes) r.given ≡ None
  pub source : IsAt r.source bytes
  pub sound : r.fault ≡ None
  pub more : r.done ≡ false

-- of the bytes under a name, where they are told and there are some
abbrev pub Told : Option Files → List ℕ → (List ℕ → Type 0) → Type 0
Told holds name P = Given holds name (λ file. IfSome file P)

-- of the file under a name is at most one byte more read than a table of a shape has in version 2, and where the file is
-- told, in the version that it names, and no more than the file has
pub record TakesAtMost {F : Type 0} (d : FolderMeanings F) (old new : F) (name : List ℕ) (s : TableShape) : Type 0 where
  pub most_taken : d.taken new ≤ raised (d.taken old) (length_of Layered s + 1)
  pub most_of_file : Told (d.holds old) name (λ bytes.
      d.taken new ≤ raised (d.taken old) (expected_length s bytes + 1))
  pub once : TakesOnce (name ∷ []) (d.holds old) (d.taken old) (d.taken new)

-- `start`, at the file under the name
abbrev pub Starts : List ℕ → TableShape → Option (List ℕ) → Result TableReader TableFault → Type 0
Starts digest s None (Ok r) = ⊥
Starts digest s (Some bytes) (Ok r) = HasRead digest r bytes
Starts digest s file (Err Failed) = ⊤
Starts digest s file (Err Memory) = ⊤
Starts digest s file (Err Absent) = file ≡ None
Starts digest s None (Err fault) = ⊥
Starts digest s (Some bytes) (Err fault) =
    (header_fault digest s bytes ≡ Some fault) × (first_fault digest s bytes ≡ Some fault)

-- `entry`, at the bytes in which the reader stands
abbrev pub GivesEntry : List ℕ → ReaderState → List ℕ → Result Entry TableFault → Type 0
GivesEntry digest old bytes (Ok entry) =
    (entry ≡ entry_at old.shape bytes old.given) × (entry_fault old.shape bytes old.given ≡ None)
GivesEntry digest old bytes (Err Failed) = ⊤
GivesEntry digest old bytes (Err Absent) = ⊥
GivesEntry digest old bytes (Err Memory) = ⊥
GivesEntry digest old bytes (Err fault) =
    (entry_fault old.shape bytes old.given ≡ Some fault) × (first_fault digest old.shape bytes ≡ Some fault)

-- `finish`, at the bytes in which the reader stands
abbrev pub Finishes : {X : Type 0} → List ℕ → TableShape → List ℕ → Result X TableFault → Type 0
Finishes digest s bytes (Ok x) =
    (tail_fault s bytes ≡ None)
    × (first_fault digest s bytes ≡ None)
    × (bytes ≡ text_of_layers (format_of bytes) digest s (layers_at s bytes))
Finishes digest s bytes (Err Failed) = ⊤
Finishes digest s bytes (Err Absent) = ⊥
Finishes digest s bytes (Err Memory) = ⊥
Finishes digest s bytes (Err fault) =
    (tail_fault s bytes ≡ Some fault) × (first_fault digest s bytes ≡ Some fault)

-- a fault is answered where the reader had found none before
abbrev pub FindsNow : {X : Type 0} → ReaderState → Result X TableFault → TableFault → Type 0
FindsNow old result fault = (old.fault ≡ None) × IsErrOf result fault

-- the fault that a reader keeps of an answer
abbrev pub kept : {X : Type 0} → Result X TableFault → Option TableFault
kept (Ok x) = None
kept (Err fault) = Some fault

-- what a call of a reader leaves: it keeps the fault of its answer and answers it again, it takes at most one byte more
-- than the table's length, and no more than the file has, it takes no memory, and says that the file is not held only where
-- it is not
pub record Leaves {F X : Type 0} (d : FolderMeanings F) (old new : F) (name : List ℕ) (before now : ReaderState)
    (result : Result X TableFault) : Type 0 where
  pub fault : now.fault ≡ kept result
  pub again : IfSome before.fault (λ fault. result ≡ Err fault)
  pub shape : now.shape ≡ before.shape
  pub format : now.format ≡ before.format
  pub taken : Takes d old new before.taken now.taken
  pub most : now.taken ≤ length_of now.format now.shape + 1
  pub within : StaysWithin (d.holds old) name before.taken now.taken
  pub memory : FindsNow before result Memory → ⊥
  pub not_held : FindsNow before result Absent → Given (d.holds old) name (λ file. file ≡ None)
  pub frame : OnlyReads d old new (FindsNow before result Failed) (FindsNow before result Absent)
