-- What `manoeuvre` calls for, by the files of the folder.
use Rattle.std.specs.Prelude.{◌≡◌, ℕ, List, [], ◌∷◌, Option}
use Rattle.std.specs.FinMap.{get}
use Rattle.acas_spec.specs.Model.{ModelData}
use Rattle.acas_outside.specs.Files.{Files}
use Rattle.acas_rulings.specs.Intruder.{Manoeuvre}
use Rattle.acas_rulings.specs.Boxes.{AreBoxesOf, AuditedBox}
use Rattle.acas_boxes.specs.Rates.{AllRatesFit, fitting_boxes_of}
use Rattle.acas_report_lines.specs.Meetings.{IsMeetingsBegun, IsMeetingsReport}
use Rattle.acas_report_lines.specs.declared.meet_counts.MeetCounts.{MeetCounts}
use Rattle.acas_command.specs.Called.{Called, calls_for_report}
use Rattle.acas_command.specs.Calls.{with_input_file, with_model}
use Rattle.acas_command.specs.InputFile.{IsInputFile}
use Rattle.acas_command.specs.ModelFile.{IsModelFile}
use Rattle.acas_command.specs.Outcome.{Outcome, prints}
use Rattle.acas_command.specs.declared.status.FileRole.TheVariants.{Boxes as BoxesFile}

-- what it looks at before it prints: the file of the model, and that of the boxes, whose last rule is that the intruder may have their
-- rates
abbrev pub manoeuvre_looks_at : List ℕ → List ℕ → Manoeuvre → Files → Outcome
manoeuvre_looks_at model boxes may files =
    with_model (get files model) (λ digest m. with_input_file BoxesFile (fitting_boxes_of m may) (get files boxes) (λ said. prints []))

-- M is the file of a model, and B that of these boxes, which it can audit and whose rates the intruder may have
pub record AreMetBoxes (model boxes : List ℕ) (may : Manoeuvre) (files : Files) (m : ModelData) (said : List AuditedBox) : Type 0 where
  pub digest : List ℕ
  pub model_file : IsModelFile (get files model) digest m
  pub boxes_file : IsInputFile (fitting_boxes_of m may) (get files boxes) said
  pub fits : AreBoxesOf m said
  pub rates : AllRatesFit may said

-- the text is a report of the boxes, with so many reported
pub record IsManoeuvreText (model boxes : List ℕ) (may : Manoeuvre) (files : Files) (reported : ℕ) (text : List ℕ) : Type 0 where
  pub m : ModelData
  pub said : List AuditedBox
  pub audited : AreMetBoxes model boxes may files m said
  pub counts : MeetCounts
  pub report : IsMeetingsReport m may said counts text
  pub count : reported ≡ counts.reported

-- a report of the boxes was begun
pub record IsManoeuvreBegun (model boxes : List ℕ) (may : Manoeuvre) (files : Files) (old new : Option (List ℕ)) : Type 0 where
  pub m : ModelData
  pub said : List AuditedBox
  pub audited : AreMetBoxes model boxes may files m said
  pub begun : IsMeetingsBegun m may said old new

-- `manoeuvre M B A C` prints a report of the boxes, against an intruder that may do so much
abbrev pub CallsForManoeuvre : List ℕ → List ℕ → Manoeuvre → Called
CallsForManoeuvre model boxes may = calls_for_report (model ∷ boxes ∷ []) (manoeuvre_looks_at model boxes may) (IsManoeuvreText model boxes may) (IsManoeuvreBegun model boxes may)
