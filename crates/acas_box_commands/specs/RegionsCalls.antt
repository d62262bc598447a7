-- What `regions` calls for, by the files of the folder.
use Rattle.std.specs.Prelude.{◌≡◌, ℕ, List, [], ◌∷◌, Option}
use Rattle.std.specs.FinMap.{get}
use Rattle.acas_spec.specs.Model.{ModelData}
use Rattle.acas_outside.specs.Files.{Files}
use Rattle.acas_rulings.specs.Boxes.{AreBoxesOf, AuditedBox}
use Rattle.acas_boxes.specs.Whole.{boxes_of}
use Rattle.acas_report_lines.specs.Regions.{IsRegionsReport, IsRegionsReportBegun}
use Rattle.acas_report_lines.specs.declared.counts.Counts.{Counts}
use Rattle.acas_command.specs.Called.{Called, calls_for_report}
use Rattle.acas_command.specs.Calls.{with_input_file, with_model}
use Rattle.acas_command.specs.InputFile.{IsInputFile}
use Rattle.acas_command.specs.ModelFile.{IsModelFile}
use Rattle.acas_command.specs.Outcome.{Outcome, prints}
use Rattle.acas_command.specs.declared.status.FileRole.TheVariants.{Boxes as BoxesFile}

-- what it looks at before it prints: the file of the model, and that of the boxes
abbrev pub regions_looks_at : List ℕ → List ℕ → Files → Outcome
regions_looks_at model boxes files = with_model (get files model) (λ digest m. with_input_file BoxesFile (boxes_of m) (get files boxes) (λ said. prints []))

-- M is the file of a model, and B that of these boxes, which it can audit
pub record AreAuditedBoxes (model boxes : List ℕ) (files : Files) (m : ModelData) (said : List AuditedBox) : Type 0 where
  pub digest : List ℕ
  pub model_file : IsModelFile (get files model) digest m
  pub boxes_file : IsInputFile (boxes_of m) (get files boxes) said
  pub fits : AreBoxesOf m said

-- the text is a report of the boxes, with so many reported
pub record IsRegionsText (model boxes : List ℕ) (files : Files) (reported : ℕ) (text : List ℕ) : Type 0 where
  pub m : ModelData
  pub said : List AuditedBox
  pub audited : AreAuditedBoxes model boxes files m said
  pub counts : Counts
  pub report : IsRegionsReport m said counts text
  pub count : reported ≡ counts.reported

-- a report of the boxes was begun
pub record IsRegionsBegun (model boxes : List ℕ) (files : Files) (old new : Option (List ℕ)) : Type 0 where
  pub m : ModelData
  pub said : List AuditedBox
  pub audited : AreAuditedBoxes model boxes files m said
  pub begun : IsRegionsReportBegun m said old new

-- `regions` prints a report of the boxes
abbrev pub CallsForRegions : List ℕ → List ℕ → Called
CallsForRegions model boxes = calls_for_report (model ∷ boxes ∷ []) (regions_looks_at model boxes) (IsRegionsText model boxes) (IsRegionsBegun model boxes)
