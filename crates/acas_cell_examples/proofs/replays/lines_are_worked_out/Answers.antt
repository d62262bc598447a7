use Rattle.std.proofs.Common.{refl}
use Rattle.std.specs.Fmt.{digits}
use Rattle.acas_replay.specs.Replay.{counts_line, line_of, replay_text}
use Rattle.acas_cell_examples.proofs.replays.lines_are_worked_out.Goals as goal

pub returns-clause-apart : goal.returns-clause-apart
unfolding line_of digits
returns-clause-apart c = refl

pub returns-clause-contact : goal.returns-clause-contact
unfolding line_of digits
returns-clause-contact c = refl

pub returns-clause-counts : goal.returns-clause-counts
unfolding counts_line digits
returns-clause-counts c = refl

pub returns-clause-line : goal.returns-clause-line
unfolding line_of digits
returns-clause-line c = refl

pub returns-clause-text : goal.returns-clause-text
unfolding replay_text line_of counts_line digits
returns-clause-text c = refl
