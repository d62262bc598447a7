use Rattle.std.proofs.Common.{arith}
use Rattle.std.proofs.lemmas.Grind.{common_steps}
use Rattle.acas_region_curves.proofs.curve.loss_of.Goals as goal

pub overflow_mul-gain : goal.overflow_mul-gain
overflow_mul-gain c = grind (arith, common_steps)

pub overflow_mul-kept : goal.overflow_mul-kept
overflow_mul-kept c = grind (arith, common_steps)
