use Rattle.std.proofs.Common.{◌≤◌, arith}
use Rattle.std.specs.Int.{IsGcd}
use Rattle.std.proofs.lemmas.Nat.Gcd.{le_of_dvd}
use Rattle.acas_frac.proofs.Lowest.{divisor_positive}
use Rattle.acas_step_stencils.proofs.units.common.Goals as goal

pub overflow_cast-result : goal.overflow_cast-result
overflow_cast-result c =
    let is : IsGcd c.args.a c.args.b c.gcd.result = rw (c.from.ensures, c.from-2.ensures) at c.gcd.ensures in
    let most : c.gcd.result ≤ c.args.b = le_of_dvd c.requires is.1 in
    omega (arith, most)

pub returns-clause-divisor : goal.returns-clause-divisor
returns-clause-divisor c = rw (c.from.ensures, c.from-2.ensures) at c.gcd.ensures

pub returns-clause-some : goal.returns-clause-some
returns-clause-some c =
    let is : IsGcd c.args.a c.args.b c.gcd.result = rw (c.from.ensures, c.from-2.ensures) at c.gcd.ensures in
    divisor_positive _ c.args.b c.requires is.1
