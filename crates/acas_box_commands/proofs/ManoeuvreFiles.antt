-- What the command goes on with behind its files.
use Rattle.std.proofs.Common.{◌≡◌, ℕ, List, [], ◌∷◌, None, refl, sym}
use Rattle.std.specs.FinMap.{get}
use Rattle.acas_spec.specs.Model.{ModelData}
use Rattle.acas_outside.specs.Files.{Files}
use Rattle.acas_rulings.specs.Intruder.{Manoeuvre}
use Rattle.acas_boxes.specs.Rates.{fitting_boxes_of}
use Rattle.acas_command.specs.Calls.{with_input_file}
use Rattle.acas_command.specs.ModelFile.{IsModelFile}
use Rattle.acas_command.specs.Outcome.{Outcome, prints}
use Rattle.acas_command.specs.declared.status.FileRole.TheVariants.{Boxes as BoxesFile}
use Rattle.acas_command.proofs.Behind.{Refers}
use Rattle.acas_command.proofs.Files.{with_model-file}
use Rattle.acas_command.proofs.Inputs.{no_file-input_file}
use Rattle.acas_command.proofs.Reports.{no_file-model, refers-report}
use Rattle.acas_box_commands.specs.ManoeuvreCalls.{CallsForManoeuvre, IsManoeuvreBegun, IsManoeuvreText, manoeuvre_looks_at}

-- looking at the files stores nothing
pub no_file-manoeuvre : (model boxes : List ℕ) (may : Manoeuvre) (files : Files) → (manoeuvre_looks_at model boxes may files).file ≡ None
no_file-manoeuvre model boxes may files =
    no_file-model (get files model) (λ digest m. with_input_file BoxesFile (fitting_boxes_of m may) (get files boxes) (λ said. prints []))
    (λ digest m. no_file-input_file BoxesFile (fitting_boxes_of m may) (get files boxes) (λ said. prints []) (λ said. refl))

-- behind the model's file
pub manoeuvre-behind_model : (model boxes : List ℕ) (may : Manoeuvre) (digest : List ℕ) (m : ModelData) (files : Files) → IsModelFile (get files model) digest m
    → with_input_file BoxesFile (fitting_boxes_of m may) (get files boxes) (λ said. prints []) ≡ manoeuvre_looks_at model boxes may files
manoeuvre-behind_model model boxes may digest m files is =
    sym (with_model-file (get files model) digest m (λ d n. with_input_file BoxesFile (fitting_boxes_of n may) (get files boxes) (λ said. prints [])) is)

-- what refuses the command as it looks at its files is answered by it
pub manoeuvre-refers : (model boxes : List ℕ) (may : Manoeuvre) (files : Files) (outcome_of : Files → Outcome) → outcome_of files ≡ manoeuvre_looks_at model boxes may files
    → Refers files (outcome_of files) (CallsForManoeuvre model boxes may)
manoeuvre-refers model boxes may files outcome_of same =
    refers-report (model ∷ boxes ∷ []) files (outcome_of files) (manoeuvre_looks_at model boxes may) (IsManoeuvreText model boxes may) (IsManoeuvreBegun model boxes may) same (no_file-manoeuvre model boxes may files)
