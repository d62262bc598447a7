-- Pieces stand for the bytes that the next digest is over.
use Rattle.std.specs.Prelude.{ℕ, List, ◌++◌, Result, OnOk, OnErr, IsErr}
use Rattle.acas_outside.specs.Files.{Grows, GrowsPart}
use Rattle.acas_outside.specs.Frame.{OnlyWrites}
use Rattle.acas_outside.specs.declared.folder.Folder.{Ghosts as FolderMeanings}
use Rattle.sha2.specs.Hashers.{Holds256}
use Rattle.acas_table_writer.specs.declared.pieces.Pieces.{Pieces}

-- the digest has taken in these bytes
abbrev pub Holds : Pieces → List ℕ → Type 0
Holds p bytes = Holds256 p.hasher bytes

-- a call that appends these bytes, which the digest takes in, or where it failed the first of them and not all
pub record Appends {F X E : Type 0} (d : FolderMeanings F) (old new : F) (name bytes : List ℕ) (before now : Pieces)
    (result : Result X E) : Type 0 where
  pub hashed : (m : List ℕ) → Holds before m → OnOk result (Holds now (m ++ bytes))
  pub ok : OnOk result (Grows (d.holds old) (d.holds new) name bytes)
  pub err : OnErr result (GrowsPart (d.holds old) (d.holds new) name bytes)
  pub frame : OnlyWrites d old new (IsErr result)
