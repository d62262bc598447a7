-- What a reader of a model answers.
use Rattle.std.specs.Prelude.{Result}
use Rattle.acas_doc.specs.Answers.{GivesUnless}
use Rattle.acas_model.specs.declared.fault.ModelFault.{ModelFault}
use Rattle.acas_model.specs.declared.fault.ModelFault.TheVariants.{Memory}

-- the reader answered what the rules give, seen by view, unless memory ran out
abbrev pub Gives : {X Y : Type 0} → (X → Y) → Result X ModelFault → Result Y ModelFault → Type 0
Gives view result rules = GivesUnless Memory view result rules
