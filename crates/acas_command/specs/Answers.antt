-- The answers of a command, each with its cause.
use Rattle.std.specs.Prelude.{◌≡◌, ◌≢◌, ℕ, ◌+◌, ◌≤◌, Some, Result, Ok, Err, IfSome, ⊤}
use Rattle.acas_units.specs.declared.limits.TheConstants.{TEXT_BYTES}
use Rattle.acas_outside.specs.Bytes.{Appends}
use Rattle.acas_outside.specs.Counts.{Rose, raised}
use Rattle.acas_outside.specs.Files.{Files}
use Rattle.acas_outside.specs.Once.{TakesOnce}
use Rattle.acas_outside.specs.Outside.{Outside}
use Rattle.acas_doc.specs.declared.input_fault.InputFault.TheVariants as inputs
use Rattle.acas_model.specs.declared.fault.ModelFault.TheVariants as faults
use Rattle.acas_table_text.specs.Refusals.{IsOfBytes}
use Rattle.acas_command.specs.Called.{Called}
use Rattle.acas_command.specs.Outcome.{Outcome, report_cause, with_file}
use Rattle.acas_command.specs.declared.status.Cause.{Cause}
use Rattle.acas_command.specs.declared.status.Cause.TheVariants.{Done, Reported, Words, Absent, Model, Table, Input, Folder, Output, TooLong, Memory}

-- the cause that a command ended with
abbrev pub ended : Result (Unit {0}) Cause → Cause
ended (Ok done) = Done
ended (Err cause) = cause

-- the cause that a report ended with, which answers how many are reported
abbrev pub report_ended : Result ℕ Cause → Cause
report_ended (Ok reported) = report_cause reported
report_ended (Err cause) = cause

-- Over every folder and output: a fault of the outside is answered only where its count rose, a text is too long only where one byte
-- more than the limit was taken, and a refusal is one of the text or of the bytes. A form is never refused as words.
abbrev pub HasCause : Cause → Outside → Outside → Type 0
HasCause Done before after = ⊤
HasCause Reported before after = ⊤
HasCause Words before after = ⊥
HasCause (Absent role) before after = Rose before.misses after.misses
HasCause (Model fault) before after = fault ≢ faults.Memory
HasCause (Table refusal) before after = IsOfBytes refusal
HasCause (Input fault) before after = fault ≢ inputs.Memory
HasCause Folder before after = Rose before.faults after.faults
HasCause Output before after = Rose before.output_faults after.output_faults
HasCause (TooLong role) before after = raised before.taken (TEXT_BYTES + 1) ≤ after.taken
HasCause Memory before after = ⊤

-- nothing was printed
abbrev pub PrintsNothing : Outside → Outside → Type 0
PrintsNothing before after = after.written ≡ before.written

-- over every folder: only a command whose whole output is out, or whose output failed, has printed
abbrev pub IsQuiet : Cause → Outside → Outside → Type 0
IsQuiet Done before after = ⊤
IsQuiet Reported before after = ⊤
IsQuiet Words before after = PrintsNothing before after
IsQuiet (Absent role) before after = PrintsNothing before after
IsQuiet (Model fault) before after = PrintsNothing before after
IsQuiet (Table refusal) before after = PrintsNothing before after
IsQuiet (Input fault) before after = PrintsNothing before after
IsQuiet Folder before after = PrintsNothing before after
IsQuiet Output before after = ⊤
IsQuiet (TooLong role) before after = PrintsNothing before after
IsQuiet Memory before after = PrintsNothing before after

-- the command was to be refused by this cause, and the files are as before
pub record Refuses (called : Called) (files : Files) (cause : Cause) (after : Outside) : Type 0 where
  pub outcome : Outcome
  pub may : called.ends files outcome
  pub refused : outcome.cause ≡ cause
  pub kept : after.holds ≡ Some files

-- the command was to end by this cause: its whole output is out, and its file is stored
pub record Completes (called : Called) (files : Files) (cause : Cause) (before after : Outside) : Type 0 where
  pub outcome : Outcome
  pub may : called.ends files outcome
  pub ends : outcome.cause ≡ cause
  pub printed : Appends before.written after.written outcome.output
  pub stored : after.holds ≡ Some (with_file outcome.file files)

-- Where the files are told: the answer is one that is called for, with its output and its file.
-- Only a fault of the outside and want of memory come in its place.
abbrev pub Agrees : Called → Files → Cause → Outside → Outside → Type 0
Agrees called files Done before after = Completes called files Done before after
Agrees called files Reported before after = Completes called files Reported before after
Agrees called files Words before after = ⊥
Agrees called files (Absent role) before after = Refuses called files (Absent role) after
Agrees called files (Model fault) before after = Refuses called files (Model fault) after
Agrees called files (Table refusal) before after = Refuses called files (Table refusal) after
Agrees called files (Input fault) before after = Refuses called files (Input fault) after
Agrees called files Folder before after = called.stores files after.holds
Agrees called files Output before after = called.prints files before after
Agrees called files (TooLong role) before after = Refuses called files (TooLong role) after
Agrees called files Memory before after = after.holds ≡ Some files

-- a command's answer; whatever it is, no more bytes were taken than the files that the command reads have together
pub record Answers (called : Called) (cause : Cause) (before after : Outside) : Type 0 where
  pub has_cause : HasCause cause before after
  pub quiet : IsQuiet cause before after
  pub told : IfSome before.holds (λ files. Agrees called files cause before after)
  pub once : TakesOnce called.reads before.holds before.taken after.taken

-- a cause with which looking at a file ends a command, before anything is printed
abbrev pub EndsLooking : Cause → Type 0
EndsLooking Done = ⊥
EndsLooking Reported = ⊥
EndsLooking Words = ⊥
EndsLooking (Absent role) = ⊤
EndsLooking (Model fault) = ⊤
EndsLooking (Table refusal) = ⊤
EndsLooking (Input fault) = ⊤
EndsLooking Folder = ⊤
EndsLooking Output = ⊥
EndsLooking (TooLong role) = ⊤
EndsLooking Memory = ⊤
