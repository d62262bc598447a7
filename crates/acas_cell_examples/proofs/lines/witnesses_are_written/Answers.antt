use Rattle.std.proofs.Common.{refl}
use Rattle.std.specs.Fmt.{digits}
use Rattle.acas_report_lines.specs.Meetings.{meeting_text}
use Rattle.acas_report_lines.specs.Text.{field, labelled, segment_text, witness_text}
use Rattle.acas_cell_examples.proofs.lines.witnesses_are_written.Goals as goal

pub returns-clause-held : goal.returns-clause-held
unfolding witness_text labelled field segment_text digits
returns-clause-held c = refl

pub returns-clause-at_once : goal.returns-clause-at_once
unfolding witness_text labelled field segment_text digits
returns-clause-at_once c = refl

pub returns-clause-met : goal.returns-clause-met
unfolding meeting_text witness_text labelled field segment_text digits
returns-clause-met c = refl
