use Rattle.std.proofs.Common.{◌≡◌, ◌/◌, pos, to_z, of_z, arith}
use Rattle.std.specs.Int.{w128}
use Rattle.std.proofs.lemmas.Int.{ints}
use Rattle.acas_frac.proofs.Lowest.{reduced-IsFrac, reduced-Same, den_small, den_some}
use Rattle.acas_frac.proofs.frac.Frac.reduced.Goals as goal

pub invariant_of-result : goal.invariant_of-result
invariant_of-result c =
    let back : to_z w128 (of_z w128 c.with_sign.result) ≡ c.with_sign.result = omega (arith, ints) in
    let small = den_small c.args.num c.args.den c.gcd-divisor.result c.gcd-divisor.ensures c.requires.some c.requires.within in
    let some = den_some c.args.num c.args.den c.gcd-divisor.result c.gcd-divisor.ensures c.requires.some c.requires.within in
    let whole : to_z w128 (c.args.den / c.gcd-divisor.result) ≡ pos (c.args.den / c.gcd-divisor.result) = omega (arith, ints) in
    rw (back, whole, c.with_sign.ensures)
    (omega (arith, ints, some), reduced-IsFrac c.args.negative c.args.num c.args.den c.gcd-divisor.result c.gcd-divisor.ensures c.requires.some c.requires.within)

pub returns : goal.returns
returns c =
    let back : to_z w128 (of_z w128 c.with_sign.result) ≡ c.with_sign.result = omega (arith, ints) in
    let small = den_small c.args.num c.args.den c.gcd-divisor.result c.gcd-divisor.ensures c.requires.some c.requires.within in
    let whole : to_z w128 (c.args.den / c.gcd-divisor.result) ≡ pos (c.args.den / c.gcd-divisor.result) = omega (arith, ints) in
    rw (back, whole, c.with_sign.ensures)
    (record { value = reduced-Same c.args.negative c.args.num c.args.den c.gcd-divisor.result c.gcd-divisor.ensures c.requires.some c.requires.within })
