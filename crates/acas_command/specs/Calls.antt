-- What is looked at before a command goes on, in the order of looking.
use Rattle.std.specs.Prelude.{ℕ, nat_lt, List, length, Option, Some, None, Result, Ok, Err, if◌then◌else◌}
use Rattle.sha2.specs.Sha256.{sha256}
use Rattle.acas_units.specs.declared.limits.TheConstants.{TEXT_BYTES}
use Rattle.acas_spec.specs.Model.{ModelData}
use Rattle.acas_model.specs.Whole.{model_of}
use Rattle.acas_doc.specs.declared.input_fault.InputFault.{InputFault}
use Rattle.acas_doc.specs.declared.input_fault.InputFault.TheVariants as inputs
use Rattle.acas_model.specs.declared.fault.ModelFault.{ModelFault}
use Rattle.acas_command.specs.Outcome.{Outcome, refuses}
use Rattle.acas_command.specs.declared.status.FileRole.{FileRole}
use Rattle.acas_command.specs.declared.status.FileRole.TheVariants.{Model as ModelFile}
use Rattle.acas_command.specs.declared.status.Cause.{Cause}
use Rattle.acas_command.specs.declared.status.Cause.TheVariants.{Absent, Input, Memory, Model, TooLong}

-- a text file is there and is not too long; the rest goes on with its bytes
abbrev pub with_text : FileRole → Option (List ℕ) → (List ℕ → Outcome) → Outcome
with_text role None rest = refuses (Absent role)
with_text role (Some bytes) rest = if nat_lt TEXT_BYTES (length bytes) then refuses (TooLong role) else rest bytes

-- the text is a model, which the rest goes on with
abbrev pub with_reading : Result ModelData ModelFault → (ModelData → Outcome) → Outcome
with_reading (Ok model) rest = rest model
with_reading (Err fault) rest = refuses (Model fault)

-- the file is a model's text; the rest goes on with its digest and the model
abbrev pub with_model : Option (List ℕ) → (List ℕ → ModelData → Outcome) → Outcome
with_model file rest = with_text ModelFile file (λ bytes. with_reading (model_of bytes) (rest (sha256 bytes)))

-- the text of boxes or of an encounter says what the rest goes on with
abbrev pub with_input : {A : Type 0} → Result A InputFault → (A → Outcome) → Outcome
with_input (Ok said) rest = rest said
with_input (Err fault) rest = refuses (Input fault)

-- the cause with which a fault of such a text ends a command
abbrev pub input_cause : InputFault → Cause
input_cause inputs.Memory = Memory
input_cause fault = Input fault

-- the file is such a text, not too long; the rest goes on with what it says
abbrev pub with_input_file : {A : Type 0} → FileRole → (List ℕ → Result A InputFault) → Option (List ℕ) → (A → Outcome) → Outcome
with_input_file role read file rest = with_text role file (λ bytes. with_input (read bytes) rest)
