use Rattle.std.proofs.Common.{arith}
use Rattle.std.proofs.lemmas.Grind.{common_steps}
use Rattle.acas_sweep.proofs.entries.fill_present.Goals as goal

pub returns-then-altitudes-eq1-clause-best : goal.returns-then-altitudes-eq1-clause-best
returns-then-altitudes-eq1-clause-best c = grind (arith, common_steps)

pub returns-then-altitudes-eq1-clause-others : goal.returns-then-altitudes-eq1-clause-others
returns-then-altitudes-eq1-clause-others c = grind (arith, common_steps)

pub returns-else-altitudes-eq1-clause-best : goal.returns-else-altitudes-eq1-clause-best
returns-else-altitudes-eq1-clause-best c = grind (arith, common_steps)

pub write_best-requires-clause-priced : goal.write_best-requires-clause-priced
write_best-requires-clause-priced c = grind (arith, common_steps)
