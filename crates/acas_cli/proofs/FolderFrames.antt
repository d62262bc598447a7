-- What a command leaves of a folder, by the cause that it ended with.
use Rattle.std.proofs.Common.{◌≡◌, ℕ, zero, suc, Result, Ok, Err}
use Rattle.std.specs.Prelude.{IsErrOf}
use Rattle.acas_outside.specs.Frame.{ReadsAndWrites}
use Rattle.acas_outside.specs.declared.folder.Folder.{Ghosts as FolderMeanings}
use Rattle.acas_command.specs.Answers.{ended, report_ended}
use Rattle.acas_command.specs.declared.status.Cause.{Cause}
use Rattle.acas_command.specs.declared.status.Cause.TheVariants.{Folder}

module _ {F : Type 0} (d : FolderMeanings F) (old new : F) where
  folder_as : (failed fails : Type 0) → (fails → failed) → ReadsAndWrites d old new failed → ReadsAndWrites d old new fails
  folder_as failed fails leads frame = record { serves = frame.serves; faults = frame.faults; misses = frame.misses; taken = frame.taken; fault = λ is. frame.fault (leads is) }

  pub folder-ended : (answer : Result (Unit {0}) Cause) → ReadsAndWrites d old new (IsErrOf answer Folder) → ReadsAndWrites d old new (ended answer ≡ Folder)
  folder-ended (Ok done) frame = folder_as _ _ (λ is. cc) frame
  folder-ended (Err cause) frame = folder_as _ _ (λ is. cc) frame

  pub folder-report_ended : (answer : Result ℕ Cause) → ReadsAndWrites d old new (IsErrOf answer Folder) → ReadsAndWrites d old new (report_ended answer ≡ Folder)
  folder-report_ended (Ok zero) frame = folder_as _ _ (λ is. cc) frame
  folder-report_ended (Ok (suc more)) frame = folder_as _ _ (λ is. cc) frame
  folder-report_ended (Err cause) frame = folder_as _ _ (λ is. cc) frame
