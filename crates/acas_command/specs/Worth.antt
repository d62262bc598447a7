-- A command that is not refused, and the line that one prints.
use Rattle.std.specs.Prelude.{◌≡◌, ℕ, List, ⊤}
use Rattle.acas_outside.specs.Bytes.{Appends, AppendsPart}
use Rattle.acas_outside.specs.Counts.{Rose}
use Rattle.acas_outside.specs.Outside.{Outside}
use Rattle.acas_command.specs.Called.{MayPrint}
use Rattle.acas_command.specs.declared.status.Cause.{Cause}
use Rattle.acas_command.specs.declared.status.Cause.TheVariants.{Done, Reported, Words, Absent, Model, Table, Input, Folder, Output, TooLong, Memory}

-- its whole output is out, or a call of the folder or of the output failed, whose count rose, or memory was refused
abbrev pub IsNotRefused : Cause → Outside → Outside → Type 0
IsNotRefused Done before after = ⊤
IsNotRefused Reported before after = ⊤
IsNotRefused Words before after = ⊥
IsNotRefused (Absent role) before after = ⊥
IsNotRefused (Model fault) before after = ⊥
IsNotRefused (Table refusal) before after = ⊥
IsNotRefused (Input fault) before after = ⊥
IsNotRefused Folder before after = Rose before.faults after.faults
IsNotRefused Output before after = Rose before.output_faults after.output_faults
IsNotRefused (TooLong role) before after = ⊥
IsNotRefused Memory before after = ⊤

-- the same of a command that reports nothing: it is done, or such a call failed, or memory was refused
abbrev pub IsDoneUnlessFailed : Cause → Outside → Outside → Type 0
IsDoneUnlessFailed Reported before after = ⊥
IsDoneUnlessFailed cause before after = IsNotRefused cause before after

-- with a cause that may print the whole line is out, and where the output failed a proper prefix of it
pub record PrintsLine (cause : Cause) (before after : Outside) (line : List ℕ) : Type 0 where
  pub whole : MayPrint cause → Appends before.written after.written line
  pub part : cause ≡ Output → AppendsPart before.written after.written line
