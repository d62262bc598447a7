use Rattle.std.proofs.Common.{arith}
use Rattle.acas_frac.proofs.Multipliers.{multiplier_fits}
use Rattle.acas_frac.proofs.divisor.Divisor.new.Goals as goal

pub overflow_cast-result : goal.overflow_cast-result
overflow_cast-result c =
    let few = c.ilog2-shift.ensures.bound in
    let least = c.ilog2-shift.ensures.power_le in
    omega (arith, multiplier_fits c.ilog2-shift.result c.from.result (omega (arith, few)) (omega (arith, c.requires, c.from.ensures)) (omega (arith, least, c.from.ensures)))
