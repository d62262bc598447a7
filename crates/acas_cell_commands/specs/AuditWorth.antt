-- What `audit` is worth, in the words of the subject, over a folder that tells its files.
use Rattle.std.specs.Prelude.{◌≡◌, ℕ, List, Some}
use Rattle.acas_spec.specs.Model.{ModelData}
use Rattle.acas_spec.specs.Table.{Table}
use Rattle.acas_base.specs.Advices.{AdvicesData}
use Rattle.acas_outside.specs.Bytes.{Appends}
use Rattle.acas_outside.specs.Files.{Files}
use Rattle.acas_outside.specs.Outside.{Outside}
use Rattle.acas_cells.specs.Corners.{advisory_cells}
use Rattle.acas_report_lines.specs.Report.{IsReportOn}
use Rattle.acas_report_lines.specs.Text.{is_certified}
use Rattle.acas_report_lines.specs.CellReport.{clear_cells, report_text}
use Rattle.acas_report.specs.Verdicts.{IsVerdictOnCell}
use Rattle.acas_report_lines.specs.declared.counts.Counts.{Counts}
use Rattle.acas_report_lines.specs.declared.counts.Which.{Which}
use Rattle.acas_table_text.specs.declared.refusal.TableRefusal.{TableRefusal}
use Rattle.acas_command.specs.Called.{MayPrint}
use Rattle.acas_command.specs.Outcome.{report_cause}
use Rattle.acas_command.specs.Worth.{IsNotRefused}
use Rattle.acas_command.specs.declared.status.Cause.{Cause}
use Rattle.acas_command.specs.declared.status.Cause.TheVariants.{Table as Refused}
use Rattle.acas_table_file.specs.Worth.{RejectsTable, SaysTable, TellsAdvices}

-- M says a model, T is the text of a table of it whose entries are all sound, and what was printed is a report of that table's advices:
-- each of its advisory cells is ruled on, in order. The cause says whether one is reported.
pub record PrintsAudit (model table : List ℕ) (which : Which) (files : Files) (cause : Cause) (before after : Outside) : Type 0 where
  pub m : ModelData
  pub advices : AdvicesData
  pub advised : TellsAdvices model table files m advices
  pub counts : Counts
  pub text : List ℕ
  pub report : IsReportOn (IsVerdictOnCell m) is_certified (advisory_cells m advices) (clear_cells m advices) (report_text m advices which) counts text
  pub printed : Appends before.written after.written text
  pub kept : after.holds ≡ Some files
  pub reported : cause ≡ report_cause counts.reported

-- `audit M T`: what a run has printed that is done or reports, and what one has rejected that is refused as a table; and where M says a
-- model and T is the text of a table of it whose entries are all sound, it is not refused
pub record AuditIsWorth (model table : List ℕ) (which : Which) (files : Files) (cause : Cause) (before after : Outside) : Type 0 where
  pub printed : MayPrint cause → PrintsAudit model table which files cause before after
  pub refused : (refusal : TableRefusal) → cause ≡ Refused refusal → RejectsTable model table files
  pub not_refused : (m : ModelData) (t : Table) → SaysTable model table files m t → IsNotRefused cause before after
