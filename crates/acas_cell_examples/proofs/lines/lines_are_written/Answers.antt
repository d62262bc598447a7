use Rattle.std.proofs.Common.{refl}
use Rattle.std.specs.Fmt.{digits}
use Rattle.acas_report_lines.specs.Meetings.{meeting_text}
use Rattle.acas_report_lines.specs.Text.{box_text, cell_text, field, labelled, segment_text, witness_text}
use Rattle.acas_cell_examples.proofs.lines.lines_are_written.Goals as goal

pub returns-clause-cell : goal.returns-clause-cell
unfolding cell_text field digits
returns-clause-cell c = refl

pub returns-clause-cell_certified : goal.returns-clause-cell_certified
unfolding cell_text field digits
returns-clause-cell_certified c = refl

pub returns-clause-cell_reported : goal.returns-clause-cell_reported
unfolding cell_text witness_text labelled field segment_text digits
returns-clause-cell_reported c = refl

pub returns-clause-box_number : goal.returns-clause-box_number
unfolding box_text field digits
returns-clause-box_number c = refl

pub returns-clause-box_certified : goal.returns-clause-box_certified
unfolding box_text field digits
returns-clause-box_certified c = refl

pub returns-clause-box_reported : goal.returns-clause-box_reported
unfolding box_text witness_text labelled field segment_text digits
returns-clause-box_reported c = refl

pub returns-clause-met : goal.returns-clause-met
unfolding box_text meeting_text witness_text labelled field segment_text digits
returns-clause-met c = refl

pub returns-clause-not_met : goal.returns-clause-not_met
unfolding box_text field digits
returns-clause-not_met c = refl
