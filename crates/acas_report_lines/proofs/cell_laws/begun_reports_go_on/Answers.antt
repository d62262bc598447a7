use Rattle.acas_cells.specs.Corners.{advisory_cells}
use Rattle.acas_rulings.specs.Rulings.{IsRulingOfCell}
use Rattle.acas_report_lines.specs.Text.{is_certified}
use Rattle.acas_report_lines.proofs.Begun.{goes_on}
use Rattle.acas_report_lines.specs.CellReport.{clear_cells, report_text}
use Rattle.acas_report_lines.proofs.cell_laws.begun_reports_go_on.Goals as goal

pub returns : goal.returns
returns c m a which old new all begun =
    goes_on (IsRulingOfCell m) is_certified (advisory_cells m a) (clear_cells m a) (report_text m a which) old new all begun
