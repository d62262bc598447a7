use Rattle.std.proofs.Common.{refl}
use Rattle.std.specs.Fmt.{digits}
use Rattle.acas_report_lines.specs.Text.{field, labelled, segment_text}
use Rattle.acas_cell_examples.proofs.lines.responses_are_written.Goals as goal

pub returns-clause-apart : goal.returns-clause-apart
unfolding field
returns-clause-apart c = refl

pub returns-clause-labelled : goal.returns-clause-labelled
unfolding labelled field
returns-clause-labelled c = refl

pub returns-clause-one : goal.returns-clause-one
unfolding segment_text digits
returns-clause-one c = refl

pub returns-clause-parts : goal.returns-clause-parts
unfolding field segment_text digits
returns-clause-parts c = refl

pub returns-clause-both : goal.returns-clause-both
unfolding field segment_text digits
returns-clause-both c = refl

pub returns-clause-none : goal.returns-clause-none
returns-clause-none c = refl
