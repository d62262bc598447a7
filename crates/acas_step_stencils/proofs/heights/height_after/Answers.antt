use Rattle.std.proofs.Common.{◌-◌, length, arith}
use Rattle.std.proofs.lemmas.Int.{clamps, ints}
use Rattle.acas_step_stencils.proofs.heights.height_after.Goals as goal

pub overflow_cast-result : goal.overflow_cast-result
overflow_cast-result c =
    (omega (arith, ints, c.max.ensures.other_bound), omega (arith, ints, clamps, c.max.ensures.value, c.max.ensures.other_bound, c.min.ensures.other_bound, c.from-last.ensures, c.type_inv.heights (length c.args.heights.now - 1)))
