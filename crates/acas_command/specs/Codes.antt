-- The exit codes.
use Rattle.std.specs.Prelude.{ℕ}
use Rattle.acas_command.specs.declared.status.Cause.{Cause}
use Rattle.acas_command.specs.declared.status.Cause.TheVariants.{Done, Reported, Words, Absent, Model, Table, Input, Folder, Output, TooLong, Memory}

-- each cause has its code
abbrev pub code_of : Cause → ℕ
code_of Done = 0
code_of Reported = 1
code_of Words = 2
code_of (Absent role) = 3
code_of (Model fault) = 4
code_of (Table refusal) = 5
code_of (Input fault) = 6
code_of Folder = 7
code_of Output = 8
code_of (TooLong role) = 9
code_of Memory = 12
