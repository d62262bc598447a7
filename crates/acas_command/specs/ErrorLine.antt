-- The line on the error output.
use Rattle.std.specs.Prelude.{◌≡◌, ◌⊎◌, ℕ, List, [], ◌∷◌, ◌++◌, Option, codes, slice_index_or}
use Rattle.acas_outside.specs.Bytes.{Appends, AppendsPart}
use Rattle.acas_outside.specs.Counts.{Rose}
use Rattle.acas_command.specs.Called.{MayPrint}
use Rattle.acas_command.specs.FaultText.{fault_text}
use Rattle.acas_command.specs.InputText.{input_text}
use Rattle.acas_command.specs.RefusalText.{refusal_text}
use Rattle.acas_command.specs.declared.status.FileRole.{FileRole}
use Rattle.acas_command.specs.declared.status.FileRole.TheVariants.{Model as ModelFile, Table as TableFile, Boxes as BoxesFile, Encounter as EncounterFile}
use Rattle.acas_command.specs.declared.status.Cause.{Cause}
use Rattle.acas_command.specs.declared.status.Cause.TheVariants.{Done, Reported, Words, Absent, Model, Table, Input, Folder, Output, TooLong, Memory}

-- the word that names a file
abbrev pub name_of : FileRole → List (List ℕ) → List ℕ
name_of ModelFile words = slice_index_or words 1 []
name_of TableFile words = slice_index_or words 2 []
name_of BoxesFile words = slice_index_or words 2 []
name_of EncounterFile words = slice_index_or words 3 []

-- what went wrong
abbrev pub cause_text : Cause → List (List ℕ) → List ℕ
cause_text Done words = []
cause_text Reported words = []
cause_text Words words = codes "words refused"
cause_text (Absent role) words = codes "absent: " ++ name_of role words
cause_text (Model fault) words = codes "model refused: " ++ fault_text fault
cause_text (Table refusal) words = codes "table refused: " ++ refusal_text refusal
cause_text (Input fault) words = codes "input refused: " ++ input_text fault
cause_text Folder words = codes "folder failed"
cause_text Output words = codes "output failed"
cause_text (TooLong role) words = codes "too long: " ++ name_of role words
cause_text Memory words = codes "out of memory"

-- the whole line
abbrev pub error_line : Cause → List (List ℕ) → List ℕ
error_line cause words = codes "acas: " ++ cause_text cause words ++ 10 ∷ []

-- a line is appended, or its first part where the output failed
abbrev pub AppendsLine : List ℕ → Option (List ℕ) → Option (List ℕ) → ℕ → ℕ → Type 0
AppendsLine line old new before after = Appends old new line ⊎ (AppendsPart old new line × Rose before after)

-- a run whose whole output is out leaves the error output as it was, and every other has its line there
pub record Reports (cause : Cause) (words : List (List ℕ)) (old new : Option (List ℕ)) (before after : ℕ) : Type 0 where
  pub done : MayPrint cause → new ≡ old
  pub line : ¬ MayPrint cause → AppendsLine (error_line cause words) old new before after
