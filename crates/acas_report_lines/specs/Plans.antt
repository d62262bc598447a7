-- What is written and counted for the cells of an audit, and for the advices of one cell.
use Rattle.std.specs.Prelude.{ℕ, not, ◌&&◌, ◌==◌, Bool, false, List, [], ◌∷◌, if◌then◌else◌}
use Rattle.acas_spec.specs.Model.{ModelData}
use Rattle.acas_base.specs.Advices.{AdvicesData}
use Rattle.acas_cells.specs.Cells.{Cell, cell_at}
use Rattle.acas_cells.specs.Corners.{names_at, is_clear_cell, under}
use Rattle.acas_rulings.specs.Rulings.{IsRulingOfCell}
use Rattle.acas_cells.specs.Sets.{holds}
use Rattle.acas_cells.specs.declared.name.CellName.{CellName}
use Rattle.acas_rulings.specs.declared.ruling.Ruling.{Ruling}
use Rattle.acas_cells.specs.declared.set.AdviceSet.{AdviceSet}
use Rattle.acas_report_lines.specs.Text.{cell_line, is_certified}
use Rattle.acas_report_lines.specs.Plan.{Plan, single_plan}
use Rattle.acas_report_lines.specs.declared.counts.Which.{Which}
use Rattle.acas_report_lines.specs.declared.audit.Audit.{Audit}
use Rattle.acas_report_lines.specs.declared.audit.Place.{Place}

-- the plan of cells under an advice
abbrev pub name_plan : ModelData → Which → Plan CellName CellName Ruling
name_plan m which = single_plan (IsRulingOfCell m) is_certified (cell_line m) which

-- the plan of items that have cells under an advice
abbrev pub plan_by : {X : Type 0} → ModelData → Which → (X → List CellName) → (X → Bool) → Plan CellName X Ruling
plan_by m which names is_clear = record {
  IsRulingOf = IsRulingOfCell m;
  certified = is_certified;
  line = cell_line m;
  which = which;
  names = names;
  is_clear = is_clear;
}

-- the plan of the cells
abbrev pub cell_plan : ModelData → AdvicesData → Which → Plan CellName Cell Ruling
cell_plan m a which = plan_by m which (names_at m a) (is_clear_cell m a)

-- the cell under an advice, where it is not clear and is in a set
abbrev pub chosen : Cell → (ℕ → Bool) → ℕ → List CellName
chosen c set advice = if not (advice == 0) && set advice then under c advice ∷ [] else []

-- the plan of the advices of one cell
abbrev pub advice_plan : ModelData → Which → Cell → (ℕ → Bool) → Plan CellName ℕ Ruling
advice_plan m which c set = plan_by m which (chosen c set) (λ advice. false)

-- ---- what the calls on an audit have at hand

-- the cell of a place
abbrev pub place_cell : Place → Cell
place_cell at = cell_at at.n at.present at.i at.j at.k

-- the plan of an audit's cells
abbrev pub plan_of : Audit → Plan CellName Cell Ruling
plan_of audit = cell_plan audit.model.now audit.advices.now audit.which

-- that of the advices of one of its cells, where they are in a set
abbrev pub set_plan : Audit → Place → AdviceSet → Plan CellName ℕ Ruling
set_plan audit at set = advice_plan audit.model.now audit.which (place_cell at) (holds set)
