-- What `drill` is worth, in the words of the subject, over a folder that tells its files.
use Rattle.std.specs.Prelude.{◌≡◌, ℕ, List, Some}
use Rattle.std.specs.Fmt.{decimal}
use Rattle.sha2.specs.Sha256.{sha256}
use Rattle.acas_spec.specs.Limits.{IsModel}
use Rattle.acas_spec.specs.Model.{ModelData}
use Rattle.acas_spec.specs.Table.{Table}
use Rattle.acas_base.specs.Advices.{AdvicesData}
use Rattle.acas_outside.specs.Bytes.{Appends}
use Rattle.acas_outside.specs.Files.{Files}
use Rattle.acas_outside.specs.Outside.{Outside}
use Rattle.acas_policies.specs.Bounds.{HasTwoSidedBounds, IsTight}
use Rattle.acas_table_text.specs.Layers.{table_text}
use Rattle.acas_table_text.specs.declared.format.Format.TheVariants.{Layered}
use Rattle.acas_accept.specs.Accepted.{IsAcceptedTable}
use Rattle.acas_cells.specs.Corners.{advisory_cells}
use Rattle.acas_report_lines.specs.Report.{IsReportOn}
use Rattle.acas_report_lines.specs.Text.{is_certified}
use Rattle.acas_report_lines.specs.declared.counts.Counts.{Counts}
use Rattle.acas_report_lines.specs.declared.counts.Which.TheVariants.{All}
use Rattle.acas_report_lines.specs.CellReport.{clear_cells, report_text}
use Rattle.acas_command.specs.Called.{MayPrint}
use Rattle.acas_command.specs.Outcome.{report_cause}
use Rattle.acas_command.specs.Worth.{IsNotRefused}
use Rattle.acas_command.specs.declared.status.Cause.{Cause}
use Rattle.acas_table_file.specs.Worth.{AreTabled}
use Rattle.acas_report.specs.Verdicts.{IsVerdictOnCell}
use Rattle.acas_drill.specs.Calls.{EndsDrill}
use Rattle.acas_drill_model.specs.DrilledModel.{drilled_model}
use Rattle.acas_drill.specs.Text.{drill_text}

-- these are the counts of a report in which each advisory cell of these advices is ruled on
pub record AreVerdictCounts (m : ModelData) (advices : AdvicesData) (counts : Counts) : Type 0 where
  pub text : List ℕ
  pub report : IsReportOn (IsVerdictOnCell m) is_certified (advisory_cells m advices) (clear_cells m advices) (report_text m advices All) counts text

-- The model of the number is within its limits. It has a table with two-sided and tight bounds, whose text in version 2, behind the
-- digest of the number's digits, is accepted; and what was printed are the lines with the counts of a report of that table's advices.
-- The cause says whether a cell is reported.
pub record PrintsDrill (number : ℕ) (files : Files) (cause : Cause) (before after : Outside) : Type 0 where
  pub within : IsModel (drilled_model number)
  pub t : Table
  pub bounds : HasTwoSidedBounds (drilled_model number) t
  pub tight : IsTight (drilled_model number) t
  pub accepted : IsAcceptedTable (drilled_model number) (sha256 (decimal number)) (table_text Layered (sha256 (decimal number)) (drilled_model number).grid t) t
  pub advices : AdvicesData
  pub tabled : AreTabled (drilled_model number) t advices
  pub counts : Counts
  pub counted : AreVerdictCounts (drilled_model number) advices counts
  pub printed : Appends before.written after.written (drill_text number counts)
  pub kept : after.holds ≡ Some files
  pub reported : cause ≡ report_cause counts.reported

-- `drill K`: what a run has printed that is done or reports; and it is never refused, nor does a folder fail it
pub record DrillIsWorth (number : ℕ) (files : Files) (cause : Cause) (before after : Outside) : Type 0 where
  pub printed : MayPrint cause → PrintsDrill number files cause before after
  pub not_refused : IsNotRefused cause before after
  pub ends : EndsDrill cause
