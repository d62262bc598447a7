use Rattle.std.proofs.Common.{arith}
use Rattle.std.proofs.lemmas.Grind.{common_steps}
use Rattle.acas_outside.proofs.whole.read_whole.Goals as goal

pub returns-in_err-read_more : goal.returns-in_err-read_more
returns-in_err-read_more g c = grind (arith, common_steps)

pub returns-then-branch-eq0 : goal.returns-then-branch-eq0
returns-then-branch-eq0 g c = grind (arith, common_steps)

pub returns : goal.returns
returns g c = grind (arith, common_steps)

pub loop-bytes-smaller : goal.loop-bytes-smaller
loop-bytes-smaller g c = grind (arith, common_steps)

pub loop-bytes-preserved : goal.loop-bytes-preserved
loop-bytes-preserved g c = grind (arith, common_steps)

pub loop-bytes-init : goal.loop-bytes-init
loop-bytes-init g c = grind (arith, common_steps)
