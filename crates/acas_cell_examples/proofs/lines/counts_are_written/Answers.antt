use Rattle.std.proofs.Common.{refl}
use Rattle.std.specs.Fmt.{digits}
use Rattle.acas_report_lines.specs.Text.{box_counts_text, counts_text, field}
use Rattle.acas_cell_examples.proofs.lines.counts_are_written.Goals as goal

pub returns-clause-cells : goal.returns-clause-cells
unfolding counts_text field digits
returns-clause-cells c = refl

pub returns-clause-boxes : goal.returns-clause-boxes
unfolding box_counts_text field digits
returns-clause-boxes c = refl
