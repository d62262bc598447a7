use Rattle.std.proofs.Common.{arith}
use Rattle.std.proofs.lemmas.Grind.{common_steps}
use Rattle.acas_bounds.proofs.plane.plane_choice.Goals as goal

pub state_number-requires-clause-vertex : goal.state_number-requires-clause-vertex
state_number-requires-clause-vertex c = grind (arith, common_steps)

pub returns-clause-choice : goal.returns-clause-choice
returns-clause-choice c = grind (arith, common_steps)
