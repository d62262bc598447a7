-- The parts that the error line is written in: what needs no digits, the name or key that it is about, and the rest.
use Rattle.std.specs.Prelude.{ℕ, List, [], ◌∷◌, ◌++◌, codes}
use Rattle.acas_doc.specs.declared.input_fault.InputFault.{InputFault}
use Rattle.acas_doc.specs.declared.input_fault.InputFault.TheVariants as inputs
use Rattle.acas_model.specs.declared.fault.ModelFault.{ModelFault}
use Rattle.acas_model.specs.declared.fault.ModelFault.TheVariants.{Doc}
use Rattle.acas_command.specs.ErrorLine.{name_of}
use Rattle.acas_command.specs.FaultText.{fault_text, kind_text}
use Rattle.acas_command.specs.InputText.{input_text}
use Rattle.acas_command.specs.RefusalText.{refusal_text}
use Rattle.acas_command.specs.declared.status.Cause.{Cause}
use Rattle.acas_command.specs.declared.status.Cause.TheVariants.{Done, Reported, Words, Absent, Model, Table, Input, Folder, Output, TooLong, Memory}

abbrev pub fault_head : ModelFault → List ℕ
fault_head (Doc at) = codes "model refused: key "
fault_head fault = codes "model refused: "

abbrev pub input_head : InputFault → List ℕ
input_head (inputs.Doc at) = codes "input refused: key "
input_head fault = codes "input refused: "

abbrev pub line_head : Cause → List ℕ
line_head Done = []
line_head Reported = []
line_head Words = codes "words refused"
line_head (Absent role) = codes "absent: "
line_head (Model fault) = fault_head fault
line_head (Table refusal) = codes "table refused: "
line_head (Input fault) = input_head fault
line_head Folder = codes "folder failed"
line_head Output = codes "output failed"
line_head (TooLong role) = codes "too long: "
line_head Memory = codes "out of memory"

abbrev pub fault_subject : ModelFault → List ℕ
fault_subject (Doc at) = at.key
fault_subject fault = []

abbrev pub input_subject : InputFault → List ℕ
input_subject (inputs.Doc at) = at.key
input_subject fault = []

abbrev pub line_subject : Cause → List (List ℕ) → List ℕ
line_subject (Absent role) words = name_of role words
line_subject (TooLong role) words = name_of role words
line_subject (Model fault) words = fault_subject fault
line_subject (Input fault) words = input_subject fault
line_subject cause words = []

abbrev pub fault_tail : ModelFault → List ℕ
fault_tail (Doc at) = kind_text at.kind
fault_tail fault = fault_text fault

abbrev pub input_tail : InputFault → List ℕ
input_tail (inputs.Doc at) = kind_text at.kind
input_tail fault = input_text fault

abbrev pub line_tail : Cause → List ℕ
line_tail (Model fault) = fault_tail fault
line_tail (Table refusal) = refusal_text refusal
line_tail (Input fault) = input_tail fault
line_tail cause = []

-- the whole line, from its parts
abbrev pub line_of_parts : List ℕ → List ℕ → List ℕ → List ℕ
line_of_parts head subject tail = codes "acas: " ++ head ++ subject ++ tail ++ 10 ∷ []
