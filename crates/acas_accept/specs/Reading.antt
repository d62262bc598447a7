-- Calls that read on in a table in check.
use Rattle.std.specs.Prelude.{◌≡◌, ℕ, ◌-◌, ◌≤◌, List, Option, IfErr, IsErrOf, Result}
use Rattle.acas_outside.specs.Counts.{raised}
use Rattle.acas_outside.specs.Files.{Files, Given}
use Rattle.acas_outside.specs.Frame.{OnlyReads}
use Rattle.acas_outside.specs.Once.{length_of_file}
use Rattle.acas_outside.specs.declared.folder.Folder.{Ghosts as FolderMeanings}
use Rattle.acas_table.specs.Reader.{reader_state}
use Rattle.acas_table.specs.Source.{StaysWithin, Takes}
use Rattle.acas_accept.specs.Faults.{IsAnswerable}
use Rattle.acas_accept.specs.declared.check.TableCheck.{TableCheck}
use Rattle.acas_accept.specs.declared.refusal.AcceptFault.{AcceptFault}
use Rattle.acas_accept.specs.declared.refusal.AcceptFault.TheVariants.{Absent, Failed}

-- the reader stays at its table and counts what it takes, which is no more than the file has, a refusal is of the bytes, and a read that
-- failed or missed is told of
pub record ReadsOn {F X : Type 0} (d : FolderMeanings F) (old new : F) (name : List ℕ) (before now : TableCheck)
    (result : Result X AcceptFault) : Type 0 where
  pub shape : (reader_state now.reader).shape ≡ (reader_state before.reader).shape
  pub format : (reader_state now.reader).format ≡ (reader_state before.reader).format
  pub taken : Takes d old new (reader_state before.reader).taken (reader_state now.reader).taken
  pub within : StaysWithin (d.holds old) name (reader_state before.reader).taken (reader_state now.reader).taken
  pub kind : IfErr result IsAnswerable
  pub frame : OnlyReads d old new (IsErrOf result Failed) (IsErrOf result Absent)

-- where the file under a name is told, of which so many bytes were taken, no more are taken than are left
pub record TakesLeft (holds : Option Files) (name : List ℕ) (so_far before now : ℕ) : Type 0 where
  pub told : Given holds name (λ file. so_far ≤ length_of_file file → now ≤ raised before (length_of_file file - so_far))
