use Rattle.std.proofs.Common.{arith}
use Rattle.std.proofs.lemmas.Grind.{common_steps}
use Rattle.acas_sweep.proofs.entries.fill_best.Goals as goal

pub write_best-requires-clause-count : goal.write_best-requires-clause-count
write_best-requires-clause-count c = grind (arith, common_steps)

pub loop-present-preserved : goal.loop-present-preserved
loop-present-preserved c = grind (arith, common_steps)

pub returns-clause-count : goal.returns-clause-count
returns-clause-count c = grind (arith, common_steps)
