use Rattle.std.proofs.Common.{refl}
use Rattle.std.specs.Fmt.{digits}
use Rattle.acas_report_lines.specs.CellReport.{report_text}
use Rattle.acas_report_lines.specs.Meetings.{meeting_text}
use Rattle.acas_report_lines.specs.Regions.{boxes_text}
use Rattle.acas_report_lines.specs.Text.{box_counts_text, box_text, cell_text, counts_text, field, labelled, segment_text, witness_text}
use Rattle.acas_cell_examples.proofs.reports.reports_are_written.Goals as goal

pub returns-clause-all : goal.returns-clause-all
unfolding report_text counts_text cell_text witness_text labelled field segment_text digits
returns-clause-all c = refl

pub returns-clause-reported : goal.returns-clause-reported
unfolding report_text counts_text cell_text witness_text labelled field segment_text digits
returns-clause-reported c = refl

pub returns-clause-boxes : goal.returns-clause-boxes
unfolding boxes_text box_counts_text box_text witness_text labelled field segment_text digits
returns-clause-boxes c = refl

pub returns-clause-met : goal.returns-clause-met
unfolding boxes_text box_counts_text box_text meeting_text witness_text labelled field segment_text digits
returns-clause-met c = refl
