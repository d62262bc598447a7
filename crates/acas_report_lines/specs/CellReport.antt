-- The report of an audit.
use Rattle.std.specs.Prelude.{ℕ, List, ◌++◌, count_by, Option}
use Rattle.acas_spec.specs.Model.{ModelData}
use Rattle.acas_base.specs.Advices.{AdvicesData}
use Rattle.acas_cells.specs.Cells.{cells_of}
use Rattle.acas_cells.specs.Corners.{advisory_cells, is_clear_cell}
use Rattle.acas_rulings.specs.Rulings.{IsRulingOfCell}
use Rattle.acas_cells.specs.declared.name.CellName.{CellName}
use Rattle.acas_rulings.specs.declared.ruling.Ruling.{Ruling}
use Rattle.acas_report_lines.specs.Text.{cell_line, counts_text, is_certified}
use Rattle.acas_report_lines.specs.Report.{Ruled, IsReportOn, IsBegun, lines_of, counts_of}
use Rattle.acas_report_lines.specs.declared.counts.Counts.{Counts}
use Rattle.acas_report_lines.specs.declared.counts.Which.{Which}

-- how many cells are clear
abbrev pub clear_cells : ModelData → AdvicesData → ℕ
clear_cells m a = count_by (is_clear_cell m a) (cells_of m)

-- the lines of advisory cells, and then the counts
unfoldable pub report_text : ModelData → AdvicesData → Which → List (Ruled CellName Ruling) → List ℕ
report_text m a which ruled = lines_of is_certified (cell_line m) which ruled ++ counts_text (counts_of is_certified ruled (clear_cells m a))

-- A report of an audit: the advisory cells are ruled on, and the text is their lines and the counts.
abbrev pub IsReport : ModelData → AdvicesData → Which → Counts → List ℕ → Type 0
IsReport m a which counts text = IsReportOn (IsRulingOfCell m) is_certified (advisory_cells m a) (clear_cells m a) (report_text m a which) counts text

-- a report of an audit that was begun
abbrev pub IsReportBegun : ModelData → AdvicesData → Which → Option (List ℕ) → Option (List ℕ) → Type 0
IsReportBegun m a which old new = IsBegun (IsRulingOfCell m) (advisory_cells m a) (report_text m a which) old new
