use Rattle.std.proofs.Common.{◌+◌, ◌-◌, arith}
use Rattle.acas_frac.specs.declared.divisor.Divisor.{Divisor}
use Rattle.acas_frac.proofs.Multipliers.{half-quotient}
use Rattle.acas_frac.proofs.divisor.Divisor.up.Goals as goal

pub returns : goal.returns
returns c =
    let d : Divisor = c.args.self in
    let is = c.requires.divisor in
    half-quotient (c.args.x + (d.by - 1)) (c.args.x + d.by) d.by d.multiplier d.shift c.upper_half.result is.some is.below is.multiplier (omega (arith, is.some, c.requires.room)) (omega (arith, is.some)) c.upper_half.ensures
