-- What `regions` goes on with behind its files.
use Rattle.std.proofs.Common.{◌≡◌, ℕ, List, [], ◌∷◌, None, refl, sym}
use Rattle.std.specs.FinMap.{get}
use Rattle.acas_spec.specs.Model.{ModelData}
use Rattle.acas_outside.specs.Files.{Files}
use Rattle.acas_boxes.specs.Whole.{boxes_of}
use Rattle.acas_command.specs.Calls.{with_input_file}
use Rattle.acas_command.proofs.Inputs.{no_file-input_file}
use Rattle.acas_command.specs.ModelFile.{IsModelFile}
use Rattle.acas_command.specs.Outcome.{Outcome, prints}
use Rattle.acas_command.specs.declared.status.FileRole.TheVariants.{Boxes as BoxesFile}
use Rattle.acas_command.proofs.Files.{with_model-file}
use Rattle.acas_command.proofs.Reports.{no_file-model, refers-report}
use Rattle.acas_command.proofs.Behind.{Refers}
use Rattle.acas_box_commands.specs.RegionsCalls.{CallsForRegions, IsRegionsBegun, IsRegionsText, regions_looks_at}

pub no_file-regions : (model boxes : List ℕ) (files : Files) → (regions_looks_at model boxes files).file ≡ None
no_file-regions model boxes files =
    no_file-model (get files model) (λ digest m. with_input_file BoxesFile (boxes_of m) (get files boxes) (λ said. prints [])) (λ digest m. no_file-input_file BoxesFile (boxes_of m) (get files boxes) (λ said. prints []) (λ said. refl))

pub regions-behind_model : (model boxes digest : List ℕ) (m : ModelData) (files : Files) → IsModelFile (get files model) digest m
    → with_input_file BoxesFile (boxes_of m) (get files boxes) (λ said. prints []) ≡ regions_looks_at model boxes files
regions-behind_model model boxes digest m files is = sym (with_model-file (get files model) digest m (λ d n. with_input_file BoxesFile (boxes_of n) (get files boxes) (λ said. prints [])) is)

pub regions-refers : (model boxes : List ℕ) (files : Files) (outcome_of : Files → Outcome) → outcome_of files ≡ regions_looks_at model boxes files
    → Refers files (outcome_of files) (CallsForRegions model boxes)
regions-refers model boxes files outcome_of same =
    refers-report (model ∷ boxes ∷ []) files (outcome_of files) (regions_looks_at model boxes) (IsRegionsText model boxes) (IsRegionsBegun model boxes) same (no_file-regions model boxes files)
