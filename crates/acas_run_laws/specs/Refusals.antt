-- What the files that a form names refuse it by.
use Rattle.std.specs.Prelude.{◌≡◌, ◌<◌, ℕ, List, length, Some, None, Err, IsSomeAnd}
use Rattle.std.specs.FinMap.{get}
use Rattle.acas_units.specs.declared.limits.TheConstants.{TEXT_BYTES}
use Rattle.acas_spec.specs.Model.{ModelData}
use Rattle.acas_model.specs.Whole.{model_of}
use Rattle.acas_outside.specs.Files.{Files}
use Rattle.acas_doc.specs.declared.input_fault.InputFault.{InputFault}
use Rattle.acas_boxes.specs.Rates.{fitting_boxes_of}
use Rattle.acas_boxes.specs.Whole.{boxes_of}
use Rattle.acas_replay.specs.Whole.{encounter_of}
use Rattle.acas_accept.specs.Refusals.{first_refusal}
use Rattle.acas_table_text.specs.declared.refusal.TableRefusal.{TableRefusal}
use Rattle.acas_command.specs.ModelFile.{IsModelFile}
use Rattle.acas_command.specs.declared.status.Cause.{Cause}
use Rattle.acas_command.specs.declared.status.Cause.TheVariants.{Done, Reported, Words, Absent, Model, Table, Input, Folder, Output, TooLong, Memory}
use Rattle.acas_command.specs.declared.status.FileRole.{FileRole}
use Rattle.acas_command.specs.declared.status.FileRole.TheVariants.{Model as ModelFile, Table as TableFile, Boxes as BoxesFile, Encounter as EncounterFile}
use Rattle.acas_cli_words.specs.Words.{Form, Values, Compile, Check, Risk, Audit, Regions, Manoeuvre, Safeable, Replay, Migrate, Drill}

-- the bytes of boxes or of an encounter, beside the model, have this first fault
abbrev pub InputHasFault : Form → (FileRole → List ℕ) → Files → ModelData → InputFault → Type 0
InputHasFault (Values model) name files m fault = ⊥
InputHasFault (Compile model table) name files m fault = ⊥
InputHasFault (Check model table) name files m fault = ⊥
InputHasFault (Risk model table) name files m fault = ⊥
InputHasFault (Audit model table which) name files m fault = ⊥
InputHasFault (Regions model boxes) name files m fault = IsSomeAnd (get files (name BoxesFile)) (λ bytes. boxes_of m bytes ≡ Err fault)
InputHasFault (Manoeuvre model boxes accel rate) name files m fault =
    IsSomeAnd (get files (name BoxesFile)) (λ bytes. fitting_boxes_of m (record { accel = accel; rate = rate }) bytes ≡ Err fault)
InputHasFault (Safeable model table) name files m fault = ⊥
InputHasFault (Replay model table encounter) name files m fault = IsSomeAnd (get files (name EncounterFile)) (λ bytes. encounter_of m bytes ≡ Err fault)
InputHasFault (Migrate model table target) name files m fault = ⊥
InputHasFault (Drill number) name files m fault = ⊥

-- beside the model that the first file says, the table's bytes have this first refusal
pub record TableIsRefused (name : FileRole → List ℕ) (files : Files) (refusal : TableRefusal) : Type 0 where
  pub digest : List ℕ
  pub m : ModelData
  pub file : IsModelFile (get files (name ModelFile)) digest m
  pub refused : IsSomeAnd (get files (name TableFile)) (λ bytes. first_refusal m digest bytes ≡ Some refusal)

-- beside the model that the first file says, the boxes or the encounter have this first fault
pub record InputIsRefused (form : Form) (name : FileRole → List ℕ) (files : Files) (fault : InputFault) : Type 0 where
  pub digest : List ℕ
  pub m : ModelData
  pub file : IsModelFile (get files (name ModelFile)) digest m
  pub refused : InputHasFault form name files m fault

-- the files of these names refuse the form by this cause
abbrev pub RefusesBy : Form → (FileRole → List ℕ) → Files → Cause → Type 0
RefusesBy form name files Done = ⊥
RefusesBy form name files Reported = ⊥
RefusesBy form name files Words = ⊥
RefusesBy form name files (Absent role) = get files (name role) ≡ None
RefusesBy form name files (Model fault) = IsSomeAnd (get files (name ModelFile)) (λ bytes. model_of bytes ≡ Err fault)
RefusesBy form name files (Table refusal) = TableIsRefused name files refusal
RefusesBy form name files (Input fault) = InputIsRefused form name files fault
RefusesBy form name files Folder = ⊥
RefusesBy form name files Output = ⊥
RefusesBy form name files (TooLong role) = IsSomeAnd (get files (name role)) (λ bytes. TEXT_BYTES < length bytes)
RefusesBy form name files Memory = ⊥
