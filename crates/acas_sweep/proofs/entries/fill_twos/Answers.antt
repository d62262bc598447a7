use Rattle.std.proofs.Common.{arith}
use Rattle.std.proofs.lemmas.Grind.{common_steps}
use Rattle.acas_sweep.proofs.entries.fill_twos.Goals as goal

pub write_two-requires-clause-count : goal.write_two-requires-clause-count
write_two-requires-clause-count c = grind (arith, common_steps)

pub loop-n-preserved : goal.loop-n-preserved
loop-n-preserved c = grind (arith, common_steps)
