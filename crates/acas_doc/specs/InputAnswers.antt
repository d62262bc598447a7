-- What a reader of an input answers.
use Rattle.std.specs.Prelude.{Result}
use Rattle.acas_doc.specs.Answers.{GivesUnless}
use Rattle.acas_doc.specs.declared.input_fault.InputFault.{InputFault}
use Rattle.acas_doc.specs.declared.input_fault.InputFault.TheVariants.{Memory}

-- the reader answered what the rules give, seen by view, unless memory ran out
abbrev pub Gives : {X Y : Type 0} → (X → Y) → Result X InputFault → Result Y InputFault → Type 0
Gives view result rules = GivesUnless Memory view result rules
