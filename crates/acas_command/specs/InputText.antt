-- What is printed of the fault of a text of boxes or of an encounter.
use Rattle.std.specs.Prelude.{ℕ, List, ◌++◌, codes}
use Rattle.std.specs.Fmt.{decimal}
use Rattle.acas_doc.specs.declared.input_fault.InputFault.{InputFault}
use Rattle.acas_doc.specs.declared.input_fault.InputFault.TheVariants as input
use Rattle.acas_command.specs.FaultText.{kind_text}

-- the rule that the text fails; a place is that of a box, and 0 in an encounter
abbrev pub input_text : InputFault → List ℕ
input_text input.NotToml = codes "not toml"
input_text (input.Doc at) = codes "key " ++ at.key ++ kind_text at.kind
input_text (input.UnknownName place) = codes "unknown advisory at " ++ decimal place
input_text (input.Window place) = codes "window at " ++ decimal place
input_text (input.Rate place) = codes "rate at " ++ decimal place
input_text input.Memory = codes "out of memory"
