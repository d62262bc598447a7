use Rattle.std.proofs.Common.{refl}
use Rattle.std.specs.Fmt.{digits}
use Rattle.acas_report_lines.specs.Text.{counts_text, field}
use Rattle.acas_table_rows.specs.StoredLine.{stored_line}
use Rattle.acas_check_commands.specs.AcceptedLine.{accepted_line}
use Rattle.acas_drill.specs.Text.{drill_line}
use Rattle.acas_run_laws.proofs.texts.lines_say_how_large_a_table_is.Goals as goal

pub returns : goal.returns
unfolding digits accepted_line stored_line drill_line counts_text field
returns c = record { accepted = refl; compiled = refl; migrated = refl; drilled = refl; all_of_a_drill = refl }
