use Rattle.std.proofs.Common.{arith, rules}
use Rattle.std.proofs.lemmas.Grind.{common_steps}
use Rattle.acas_race.proofs.turn.scaled.Goals as goal

pub returns-clause-value : goal.returns-clause-value
returns-clause-value c = search rules

pub returns-clause-size : goal.returns-clause-size
returns-clause-size c = grind (arith, common_steps)
