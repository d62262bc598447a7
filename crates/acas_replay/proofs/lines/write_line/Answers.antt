use Rattle.std.proofs.Common.{arith}
use Rattle.std.proofs.lemmas.Grind.{common_steps}
use Rattle.acas_replay.proofs.lines.write_line.Goals as goal

pub line_contact-requires : goal.line_contact-requires
line_contact-requires c = grind (arith, common_steps)

pub line_number-requires-4 : goal.line_number-requires-4
line_number-requires-4 c = grind (arith, common_steps)

pub push-requires-4 : goal.push-requires-4
push-requires-4 c = grind (arith, common_steps)

pub line_number-requires-3 : goal.line_number-requires-3
line_number-requires-3 c = grind (arith, common_steps)

pub push-requires-3 : goal.push-requires-3
push-requires-3 c = grind (arith, common_steps)
