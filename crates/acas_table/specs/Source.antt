-- A source that stands at a place of a file.
use Rattle.std.specs.Prelude.{◌≡◌, ℕ, ◌+◌, ◌-◌, ◌<◌, ◌≤◌, List, length, take, Option, Some, None, Result, Ok, Err, IsErrOf, OnOk, OnErr, ⊤}
use Rattle.std.specs.Option.{option_map}
use Rattle.sha2.specs.Hashers.{Holds256}
use Rattle.acas_outside.specs.Bytes.{IsBytes}
use Rattle.acas_outside.specs.Counts.{raised}
use Rattle.acas_outside.specs.Files.{Files, Given}
use Rattle.acas_outside.specs.Frame.{OnlyReads}
use Rattle.acas_outside.specs.Once.{length_of_file}
use Rattle.acas_outside.specs.declared.folder.Folder.{Ghosts as FolderMeanings}
use Rattle.acas_table_text.specs.Format.{format_of, length_of, part}
use Rattle.acas_table_text.specs.declared.format.Format.{Format}
use Rattle.acas_table_text.specs.Faults.{end_fault}
use Rattle.acas_table_text.specs.declared.shape.TableShape.{TableShape}
use Rattle.acas_table_text.specs.declared.fault.TableFault.{TableFault}
use Rattle.acas_table_text.specs.declared.fault.TableFault.TheVariants as faults
use Rattle.acas_table.specs.declared.source.Source.{Source}

-- the place before which the digest has taken in all
abbrev pub hashed_place : Source → ℕ
hashed_place s = s.place - (s.from - s.hashed)

-- the digest has taken in what was read since its mark, but for the last bytes of it, which the buffer still has
abbrev pub IsHashed : Source → List ℕ → Type 0
IsHashed s bytes = Holds256 s.hasher (part bytes s.mark (hashed_place s - s.mark))

-- how many bytes of its file the source took: those before its place, and those at hand
abbrev pub bytes_taken : Source → ℕ
bytes_taken s = s.place + (s.to - s.from)

-- the folder's reads gave just as many bytes as this count rose by
pub record Takes {F : Type 0} (d : FolderMeanings F) (old new : F) (before now : ℕ) : Type 0 where
  pub later : before ≤ now
  pub taken : d.taken new ≡ raised (d.taken old) (now - before)

-- the folder's reads gave just as many bytes as the source took more, and what it knows of the file stays
pub record TakesMore {F : Type 0} (d : FolderMeanings F) (old new : F) (before now : Source) : Type 0 where
  pub limit : now.limit ≡ before.limit
  pub expected : now.expected ≡ before.expected
  pub later : bytes_taken before ≤ bytes_taken now
  pub taken : d.taken new ≡ raised (d.taken old) (bytes_taken now - bytes_taken before)

-- where the file under a name is told, a count of bytes that were taken of it from its front on has stayed within its length
pub record StaysWithin (holds : Option Files) (name : List ℕ) (before now : ℕ) : Type 0 where
  pub told : Given holds name (λ file. before ≤ length_of_file file → now ≤ length_of_file file)

-- a call that reads on in the file under a name: it takes no memory, says that the file is not held only where it is
-- not, and tells of a read that failed or missed
pub record ReadsTable {F X : Type 0} (d : FolderMeanings F) (old new : F) (name : List ℕ) (before now : Source)
    (result : Result X TableFault) : Type 0 where
  pub memory : IsErrOf result faults.Memory → ⊥
  pub not_held : IsErrOf result faults.Absent → Given (d.holds old) name (λ file. file ≡ None)
  pub taken : TakesMore d old new before now
  pub within : StaysWithin (d.holds old) name (bytes_taken before) (bytes_taken now)
  pub frame : OnlyReads d old new (IsErrOf result faults.Failed) (IsErrOf result faults.Absent)

-- the source is at its place in these bytes, and has in its buffer their next ones, behind those that the digest lacks
pub record IsAt (s : Source) (bytes : List ℕ) : Type 0 where
  pub ahead : part s.buffer.items s.hashed (s.to - s.hashed) ≡ part bytes (hashed_place s) (s.to - s.hashed)
  pub within : s.place + (s.to - s.from) ≤ length bytes
  pub hashed : IsHashed s bytes
  pub seen : IsBytes (take s.place bytes)

-- of a file that is not held there are none
abbrev pub IsAtFile : Source → Option (List ℕ) → Type 0
IsAtFile s None = s.from ≡ s.to
IsAtFile s (Some bytes) = IsAt s bytes

-- only the bytes at hand change
pub record Moves (old new : Source) : Type 0 where
  pub place : new.place ≡ old.place
  pub limit : new.limit ≡ old.limit
  pub expected : new.expected ≡ old.expected
  pub mark : new.mark ≡ old.mark

-- a fault is answered: a read failed, there is no file, or this was found in the bytes of the file
abbrev pub Blames : Option (Option TableFault) → TableFault → Type 0
Blames found faults.Failed = ⊤
Blames found faults.Absent = found ≡ None
Blames None fault = ⊥
Blames (Some found) fault = found ≡ Some fault

-- what was read has no fault, or its fault is answered
abbrev pub Checks : {X : Type 0} → (List ℕ → Option TableFault) → (X → List ℕ → Type 0)
    → Option (List ℕ) → Source → Result X TableFault → Type 0
Checks fault P None new (Ok x) = ⊥
Checks fault P (Some bytes) new (Ok x) = (fault bytes ≡ None) × P x bytes × IsAt new bytes
Checks fault P file new (Err f) = Blames (option_map fault file) f

-- a file that is held is of a format
abbrev pub IsOfFormat : Format → Option (List ℕ) → Type 0
IsOfFormat f None = ⊤
IsOfFormat f (Some bytes) = format_of bytes ≡ f

-- the source is of a table of a format and a shape, and stands at this place
pub record StandsAt (f : Format) (s : TableShape) (source : Source) (at : ℕ) : Type 0 where
  pub place : source.place ≡ at
  pub limit : source.limit ≡ length_of f s + 1
  pub expected : source.expected ≡ length_of f s

-- so many bytes are at hand, or the file ends before
pub record Fills {F X : Type 0} (d : FolderMeanings F) (old new : F) (name : List ℕ) (before now : Source) (wanted : ℕ)
    (result : Result X TableFault) : Type 0 where
  pub given : Given (d.holds old) name (λ file. IsAtFile before file →
      Checks (λ bytes. end_fault before.expected bytes before.place wanted) (λ _ _. ⊤) file now result)
  pub filled : OnOk result (wanted ≤ now.to - now.from)
  pub short : OnErr result (now.to - now.from < wanted)
  pub same : Moves before now
  pub reads : ReadsTable d old new name before now result

-- n bytes are read, and what the source knows of the file stays
pub record Steps (old new : Source) (n : ℕ) : Type 0 where
  pub place : new.place ≡ old.place + n
  pub limit : new.limit ≡ old.limit
  pub expected : new.expected ≡ old.expected
  pub mark : new.mark ≡ old.mark

-- there is no fault and all of the file was seen, or the fault is answered
abbrev pub Finds : {X : Type 0} → (List ℕ → Option TableFault) → Option (List ℕ)
    → Result X TableFault → Type 0
Finds fault None (Ok x) = ⊥
Finds fault (Some bytes) (Ok x) = (fault bytes ≡ None) × IsBytes bytes
Finds fault file (Err f) = Blames (option_map fault file) f
