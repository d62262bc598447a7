-- The lines of a drill.
use Rattle.std.specs.Prelude.{ℕ, List, ◌++◌, codes}
use Rattle.std.specs.Fmt.{decimal}
use Rattle.acas_spec.specs.Model.{GridData, entries, states}
use Rattle.acas_table_text.specs.Shape.{shape_of}
use Rattle.acas_table_text.specs.Format.{length_of}
use Rattle.acas_table_text.specs.declared.format.Format.TheVariants.{Layered}
use Rattle.acas_report_lines.specs.Text.{counts_text}
use Rattle.acas_report_lines.specs.declared.counts.Counts.{Counts}
use Rattle.acas_drill_model.specs.DrilledModel.{drilled_grid}

-- the number, how many states the grid has, and how many entries and bytes a table over it
unfoldable pub drill_line : ℕ → GridData → List ℕ
drill_line number g =
    codes "drill " ++ decimal number ++ codes " states " ++ decimal (states g) ++ codes " entries " ++ decimal (entries g)
    ++ codes " bytes " ++ decimal (length_of Layered (shape_of g)) ++ codes "\n"

-- the three lines over a grid: that one, that the table is accepted, and the counts of its audit
abbrev pub drill_lines : ℕ → GridData → Counts → List ℕ
drill_lines number g counts = drill_line number g ++ codes "accepted\n" ++ counts_text counts

-- those of the model of a number
abbrev pub drill_text : ℕ → Counts → List ℕ
drill_text number counts = drill_lines number (drilled_grid number) counts
