-- What the report of an audit is on.
use Rattle.std.proofs.Common.{refl}
use Rattle.acas_spec.specs.Model.{ModelData}
use Rattle.acas_base.specs.Advices.{AdvicesData}
use Rattle.acas_cells.specs.Cells.{cells_of}
use Rattle.acas_cells.specs.Corners.{advisory_cells}
use Rattle.acas_report_lines.specs.Text.{counts_text}
use Rattle.acas_report_lines.specs.Plan.{names_in, lines_in, clear_in}
use Rattle.acas_report_lines.specs.declared.counts.Which.{Which}
use Rattle.acas_report_lines.proofs.Whole.{IsOf}
use Rattle.acas_report_lines.specs.CellReport.{clear_cells, report_text}
use Rattle.acas_report_lines.specs.Plans.{cell_plan}

pub of_cells : (m : ModelData) (a : AdvicesData) (which : Which) → IsOf (cell_plan m a which) (cells_of m) (advisory_cells m a) (clear_cells m a) (report_text m a which) counts_text
unfolding names_in lines_in clear_in report_text
of_cells m a which = record { names_are = refl; clear_are = refl; text_is = λ ruled. refl }
