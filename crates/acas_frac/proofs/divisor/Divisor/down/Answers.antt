use Rattle.std.proofs.Common.{◌+◌, refl}
use Rattle.acas_frac.specs.declared.divisor.Divisor.{Divisor}
use Rattle.acas_frac.proofs.Multipliers.{half-quotient}
use Rattle.acas_frac.proofs.divisor.Divisor.down.Goals as goal

pub returns : goal.returns
returns c =
    let d : Divisor = c.args.self in
    let is = c.requires.divisor in
    half-quotient c.args.x (c.args.x + 1) d.by d.multiplier d.shift c.upper_half.result is.some is.below is.multiplier c.requires.room refl c.upper_half.ensures
