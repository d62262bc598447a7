-- What a command goes on with behind a text of boxes or of an encounter.
use Rattle.std.proofs.Common.{◌≡◌, ℕ, Bool, true, false, cond, nat_lt, List, [], length, Option, None, Some, Result, Ok, Err, refl, ap, sym, ◌≢◌, ◌∙◌}
use Rattle.std.specs.FinMap.{get}
use Rattle.std.proofs.lemmas.Bool.{le-ltb}
use Rattle.acas_units.specs.declared.limits.TheConstants.{TEXT_BYTES}
use Rattle.acas_doc.specs.declared.input_fault.InputFault.{InputFault}
use Rattle.acas_doc.specs.declared.input_fault.InputFault.TheVariants as inputs
use Rattle.acas_outside.specs.Files.{Given}
use Rattle.acas_outside.specs.Outside.{Outside}
use Rattle.acas_outside.proofs.Once.{takes_none}
use Rattle.acas_command.specs.Answers.{Answers, EndsLooking}
use Rattle.acas_command.specs.Called.{calls_for}
use Rattle.acas_command.specs.Calls.{input_cause, with_input, with_input_file}
use Rattle.acas_command.specs.Outcome.{Outcome, prints, refuses}
use Rattle.acas_command.specs.TextFile.{IsTextFile}
use Rattle.acas_command.specs.declared.status.Cause.TheVariants.{Input, TooLong}
use Rattle.acas_command.specs.declared.status.FileRole.{FileRole}
use Rattle.acas_command.proofs.Behind.{told-both, told-kept}
use Rattle.acas_command.proofs.Reports.{no_file-text}

no_file-input : {A : Type 0} (r : Result A InputFault) (rest : A → Outcome) → ((said : A) → (rest said).file ≡ None) → (with_input r rest).file ≡ None
no_file-input (Ok said) rest none = none said
no_file-input (Err fault) rest none = refl

-- looking at the file stores nothing
pub no_file-input_file : {A : Type 0} (role : FileRole) (read : List ℕ → Result A InputFault) (file : Option (List ℕ)) (rest : A → Outcome)
    → ((said : A) → (rest said).file ≡ None) → (with_input_file role read file rest).file ≡ None
no_file-input_file role read file rest none = no_file-text role file (λ bytes. with_input (read bytes) rest) (λ bytes. no_file-input (read bytes) rest none)

-- a text that is read
pub with_input_file-read : {A : Type 0} (role : FileRole) (read : List ℕ → Result A InputFault) (file : Option (List ℕ)) (bytes : List ℕ) (said : A) (rest : A → Outcome)
    → IsTextFile file bytes → read bytes ≡ Ok said → with_input_file role read file rest ≡ rest said
with_input_file-read role read file bytes said rest text is_read =
    ap (λ (f : Option (List ℕ)). with_input_file role read f rest) text.there ∙ short_text (le-ltb TEXT_BYTES (length bytes) text.short)
  where
    short_text : nat_lt TEXT_BYTES (length bytes) ≡ false → with_input_file role read (Some bytes) rest ≡ rest said
    short_text short = rw (short, is_read) refl

-- a text that fails its rules
with_input_file-fails : {A : Type 0} (role : FileRole) (read : List ℕ → Result A InputFault) (file : Option (List ℕ)) (bytes : List ℕ) (fault : InputFault) (rest : A → Outcome)
    → IsTextFile file bytes → read bytes ≡ Err fault → with_input_file role read file rest ≡ refuses (Input fault)
with_input_file-fails role read file bytes fault rest text fails =
    ap (λ (f : Option (List ℕ)). with_input_file role read f rest) text.there ∙ short_text (le-ltb TEXT_BYTES (length bytes) text.short)
  where
    short_text : nat_lt TEXT_BYTES (length bytes) ≡ false → with_input_file role read (Some bytes) rest ≡ refuses (Input fault)
    short_text short = rw (short, fails) refl

-- where the text was read, its fault ends the command, or memory ran out in its place
pub answers-input : {A : Type 0} (names : List (List ℕ)) (role : FileRole) (read : List ℕ → Result A InputFault) (name bytes : List ℕ) (fault : InputFault) (rest : A → Outcome) (now : Outside)
    → Given now.holds name (λ file. IsTextFile file bytes) → (fault ≢ inputs.Memory → read bytes ≡ Err fault)
    → Answers (calls_for names (λ files. with_input_file role read (get files name) rest)) (input_cause fault) now now
answers-input {A = A} names role read name bytes fault rest now given rules = by_fault fault rules
  where
    refused : (fault : InputFault) → fault ≢ inputs.Memory → read bytes ≡ Err fault → Answers (calls_for names (λ files. with_input_file role read (get files name) rest)) (Input fault) now now
    refused fault other fails = record {
      has_cause = other;
      quiet = refl;
      told = told-both now.holds _ _ _ (λ files text kept. record {
        outcome = refuses (Input fault);
        may = sym (with_input_file-fails role read (get files name) bytes fault rest text fails);
        refused = refl;
        kept = kept;
      }) given (told-kept now.holds now.holds refl);
      once = takes_none names now.holds now.taken now.taken refl;
    }

    by_fault : (fault : InputFault) → (fault ≢ inputs.Memory → read bytes ≡ Err fault) → Answers (calls_for names (λ files. with_input_file role read (get files name) rest)) (input_cause fault) now now
    by_fault inputs.NotToml rules = let other : inputs.NotToml ≢ inputs.Memory = λ e. absurd (cc e) in refused inputs.NotToml other (rules other)
    by_fault (inputs.Doc at) rules = let other : inputs.Doc at ≢ inputs.Memory = λ e. absurd (cc e) in refused (inputs.Doc at) other (rules other)
    by_fault (inputs.UnknownName place) rules = let other : inputs.UnknownName place ≢ inputs.Memory = λ e. absurd (cc e) in refused (inputs.UnknownName place) other (rules other)
    by_fault (inputs.Window place) rules = let other : inputs.Window place ≢ inputs.Memory = λ e. absurd (cc e) in refused (inputs.Window place) other (rules other)
    by_fault (inputs.Rate place) rules = let other : inputs.Rate place ≢ inputs.Memory = λ e. absurd (cc e) in refused (inputs.Rate place) other (rules other)
    by_fault inputs.Memory rules = record { has_cause = tt; quiet = refl; told = told-kept now.holds now.holds refl; once = takes_none names now.holds now.taken now.taken refl }

-- such a fault ends a command as it looks at its files, and is no fault of the folder
pub ends-input : (fault : InputFault) → EndsLooking (input_cause fault)
ends-input inputs.NotToml = tt
ends-input (inputs.Doc at) = tt
ends-input (inputs.UnknownName place) = tt
ends-input (inputs.Window place) = tt
ends-input (inputs.Rate place) = tt
ends-input inputs.Memory = tt

-- a text that is refused
pub rejected-input_file : {A : Type 0} (role : FileRole) (read : List ℕ → Result A InputFault) (file : Option (List ℕ)) (fault : InputFault)
    → (with_input_file role read file (λ said. prints [])).cause ≡ Input fault → (bytes : List ℕ) × (file ≡ Some bytes) × (read bytes ≡ Err fault)
rejected-input_file {A = A} role read None fault h = absurd (cc h)
rejected-input_file {A = A} role read (Some bytes) fault h = (bytes, refl, rejected (read bytes) (in_length (nat_lt TEXT_BYTES (length bytes)) h))
  where
    in_length : (b : Bool) → (cond b (refuses (TooLong role)) (with_input (read bytes) (λ said. prints []))).cause ≡ Input fault → (with_input (read bytes) (λ said. prints [])).cause ≡ Input fault
    in_length true h = absurd (cc h)
    in_length false h = h

    rejected : (r : Result A InputFault) → (with_input r (λ said. prints [])).cause ≡ Input fault → r ≡ Err fault
    rejected (Ok said) h = absurd (cc h)
    rejected (Err other) h = cc h
