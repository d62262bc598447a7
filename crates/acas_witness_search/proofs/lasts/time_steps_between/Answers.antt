use Rattle.std.proofs.Common.{arith}
use Rattle.std.proofs.lemmas.Grind.{common_steps, elements}
use Rattle.acas_witness_search.proofs.lasts.time_steps_between.Goals as goal

pub overflow_mul-way : goal.overflow_mul-way
overflow_mul-way c = grind (arith, common_steps)

pub overflow_add-result : goal.overflow_add-result
overflow_add-result c = grind (arith, elements)

pub overflow_cast-result : goal.overflow_cast-result
overflow_cast-result c = grind (arith, elements)
