-- A report whose rulings have the witnesses of the rule is one of verdicts.
use Rattle.std.proofs.Common.{ℕ, List}
use Rattle.acas_spec.specs.Model.{ModelData}
use Rattle.acas_base.specs.Advices.{AdvicesData}
use Rattle.acas_flight.specs.State.{IsInCell, State}
use Rattle.acas_rulings.specs.declared.flight.Witness.{Witness}
use Rattle.acas_cells.specs.Corners.{advisory_cells}
use Rattle.acas_rulings.specs.Rulings.{IsRuling, IsRulingOfCell, IsWitnessOfCell}
use Rattle.acas_rulings.specs.declared.ruling.Ruling.{Ruling}
use Rattle.acas_rulings.specs.declared.ruling.Ruling.TheVariants.{Certified, Reported}
use Rattle.acas_report_lines.specs.Report.{IsReportOn}
use Rattle.acas_report_lines.specs.Text.{is_certified}
use Rattle.acas_report_lines.proofs.Reports.{report-of}
use Rattle.acas_report_lines.specs.declared.counts.Counts.{Counts}
use Rattle.acas_report_lines.specs.declared.counts.Which.{Which}
use Rattle.acas_report_lines.specs.CellReport.{IsReport, clear_cells, report_text}
use Rattle.acas_report.specs.Verdicts.{IsVerdict, IsVerdictOnCell}

pub verdict : (m : ModelData) (advisory : ℕ) (IsIn : ℕ → State → Type 0) (IsRule : Witness → Type 0) (ruling : Ruling) → IsRuling m advisory IsIn IsRule ruling → IsVerdict m advisory IsIn ruling
verdict m advisory IsIn IsRule Certified h = h
verdict m advisory IsIn IsRule (Reported w) h = h.shown

-- the report of an audit
pub verdicts : (m : ModelData) (advices : AdvicesData) (which : Which) (counts : Counts) (text : List ℕ) → IsReport m advices which counts text
    → IsReportOn (IsVerdictOnCell m) is_certified (advisory_cells m advices) (clear_cells m advices) (report_text m advices which) counts text
verdicts m advices which counts text report =
    report-of (IsRulingOfCell m) (IsVerdictOnCell m) is_certified (advisory_cells m advices) (clear_cells m advices) (report_text m advices which) counts text
    (λ name ruling. verdict m name.advice (IsInCell m name.n name.i name.j name.k) (IsWitnessOfCell m name) ruling) report
