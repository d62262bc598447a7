-- What `regions` is worth, in the words of the subject, over a folder that tells its files.
use Rattle.std.specs.Prelude.{◌≡◌, ℕ, List, Some}
use Rattle.acas_spec.specs.Model.{ModelData}
use Rattle.acas_outside.specs.Bytes.{Appends}
use Rattle.acas_outside.specs.Files.{Files}
use Rattle.acas_outside.specs.Outside.{Outside}
use Rattle.acas_doc.specs.declared.input_fault.InputFault.{InputFault}
use Rattle.acas_rulings.specs.Boxes.{AuditedBox}
use Rattle.acas_boxes.specs.Text.{IsBoxesText}
use Rattle.acas_report_lines.specs.Regions.{places, regions_text}
use Rattle.acas_report_lines.specs.Report.{IsReportOn}
use Rattle.acas_report_lines.specs.Text.{is_certified}
use Rattle.acas_report.specs.Verdicts.{IsVerdictOnBox}
use Rattle.acas_report_lines.specs.declared.counts.Counts.{Counts}
use Rattle.acas_command.specs.Called.{MayPrint}
use Rattle.acas_command.specs.Outcome.{report_cause}
use Rattle.acas_command.specs.Says.{RejectsBeside, SaysBeside}
use Rattle.acas_command.specs.Worth.{IsNotRefused}
use Rattle.acas_command.specs.declared.status.Cause.{Cause}
use Rattle.acas_command.specs.declared.status.Cause.TheVariants.{Input}

-- M says a model, B says boxes beside it, and what was printed is a report of them: each is ruled on, in order. The cause says whether
-- one is reported.
pub record PrintsRegions (model boxes : List ℕ) (files : Files) (cause : Cause) (before after : Outside) : Type 0 where
  pub m : ModelData
  pub said : List AuditedBox
  pub says : SaysBeside IsBoxesText model boxes files m said
  pub counts : Counts
  pub text : List ℕ
  pub report : IsReportOn (IsVerdictOnBox m said) is_certified (places said) 0 regions_text counts text
  pub printed : Appends before.written after.written text
  pub kept : after.holds ≡ Some files
  pub reported : cause ≡ report_cause counts.reported

-- `regions M B`: what a run has printed that is done or reports, and what one has rejected that is refused as boxes; and where M says a
-- model and B says boxes beside it, it is not refused
pub record RegionsIsWorth (model boxes : List ℕ) (files : Files) (cause : Cause) (before after : Outside) : Type 0 where
  pub printed : MayPrint cause → PrintsRegions model boxes files cause before after
  pub refused : (fault : InputFault) → cause ≡ Input fault → RejectsBeside (λ m digest. IsBoxesText m) model boxes files
  pub not_refused : (m : ModelData) (said : List AuditedBox) → SaysBeside IsBoxesText model boxes files m said → IsNotRefused cause before after
