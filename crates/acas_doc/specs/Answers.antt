-- What a reader of a document answers.
use Rattle.std.specs.Prelude.{◌≡◌, ◌≢◌, Result, Ok, Err, IsErr}
use Rattle.acas_doc.specs.declared.fault.DocFault.{DocFault}
use Rattle.acas_doc.specs.declared.fault.DocError.{DocError}
use Rattle.acas_doc.specs.declared.fault.DocError.TheVariants as errors

-- the fault is this one, or memory ran out in its place
abbrev pub Stands : DocFault → DocError → Type 0
Stands f (errors.Fault g) = g ≡ f
Stands f errors.Memory = Unit {0}

-- the rules give this fault, or memory ran out where they give some fault
abbrev pub Fails : {Y : Type 0} → DocError → Result Y DocFault → Type 0
Fails (errors.Fault f) rules = rules ≡ Err f
Fails errors.Memory rules = IsErr rules

-- the call gave what the rules give, seen by view; memory runs out only in place of a fault
abbrev pub Answers : {X Y : Type 0} → (X → Y) → Result X DocError → Result Y DocFault → Type 0
Answers view (Ok x) rules = rules ≡ Ok (view x)
Answers view (Err e) rules = Fails e rules

-- the call gave what the rules give, seen by view, unless memory ran out
abbrev pub Gives : {X Y : Type 0} → (X → Y) → Result X DocError → Result Y DocFault → Type 0
Gives view (Ok x) rules = rules ≡ Ok (view x)
Gives view (Err (errors.Fault f)) rules = rules ≡ Err f
Gives view (Err errors.Memory) rules = Unit {0}

-- a getter's fault, as a fault of a text: the fault of a key carried over, or what says that memory ran out
abbrev pub text_fault : {E : Type 0} → (DocFault → E) → E → DocError → E
text_fault carried memory (errors.Fault f) = carried f
text_fault carried memory errors.Memory = memory

-- the call gave what the rules give, seen by view
abbrev pub Sees : {X Y E : Type 0} → (X → Y) → Result X E → Result Y E → Type 0
Sees view (Ok x) rules = rules ≡ Ok (view x)
Sees view (Err e) rules = rules ≡ Err e

-- the call gave what the rules give, seen by view, unless it gave this fault, which says that memory ran out
abbrev pub GivesUnless : {X Y E : Type 0} → E → (X → Y) → Result X E → Result Y E → Type 0
GivesUnless memory view (Ok x) rules = rules ≡ Ok (view x)
GivesUnless memory view (Err fault) rules = fault ≢ memory → rules ≡ Err fault
