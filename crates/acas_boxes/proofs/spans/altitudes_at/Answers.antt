use Rattle.std.proofs.Common.{arith}
use Rattle.std.proofs.lemmas.Grind.{common_steps}
use Rattle.acas_boxes.proofs.spans.altitudes_at.Goals as goal

pub feet_to_ticks-requires-2-clause-least : goal.feet_to_ticks-requires-2-clause-least
feet_to_ticks-requires-2-clause-least c = grind (arith, common_steps)

pub returns-clause-small : goal.returns-clause-small
returns-clause-small c = grind (arith, common_steps)

pub new-requires : goal.new-requires
new-requires c = grind (arith, common_steps)
