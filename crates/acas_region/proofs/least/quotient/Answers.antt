use Rattle.std.proofs.Common.{◌≡◌, pos, to_z, of_z, arith}
use Rattle.std.specs.Int.{w128}
use Rattle.std.proofs.lemmas.Int.{ints}
use Rattle.acas_region_curves.proofs.Products.{small_reduces}
use Rattle.acas_region.proofs.least.quotient.Goals as goal

pub new-requires-clause-within : goal.new-requires-clause-within
new-requires-clause-within c =
    let n : to_z w128 (of_z w128 c.args.num) ≡ c.args.num = omega (arith, ints) in
    let d : to_z w128 (of_z w128 c.from.result) ≡ pos c.args.den = omega (arith, ints, c.from.ensures, c.requires.den) in
    rw (n, d) (small_reduces c.args.num c.args.den c.requires.num c.requires.some c.requires.den)
