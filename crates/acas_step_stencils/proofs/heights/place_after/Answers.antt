use Rattle.std.proofs.Common.{arith}
use Rattle.acas_step_stencils.proofs.heights.place_after.Goals as goal

pub returns : goal.returns
returns c = c.place_by_gaps.ensures c.args.heights.now c.args.climb (omega arith) (omega arith) c.requires.even c.requires.climb
