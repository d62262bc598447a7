use Rattle.std.proofs.Common.{◌≡◌, pos, neg_ℤ, ◌-ℤ◌, to_z, of_z, arith}
use Rattle.std.specs.Int.{w128}
use Rattle.std.proofs.lemmas.Int.{ints}
use Rattle.acas_flight_windows.proofs.LeastGaps.{opposite, opposite_reduces}
use Rattle.acas_region.proofs.numbers.negate.Goals as goal

pub new-requires-clause-within : goal.new-requires-clause-within
new-requires-clause-within c =
    let up : to_z w128 (of_z w128 (pos 0 -ℤ to_z w128 (of_z w128 c.num.result))) ≡ neg_ℤ c.args.value.now.num = omega (arith, ints, c.num.ensures.value, c.num.ensures.bounds.num_small) in
    let down : to_z w128 (of_z w128 c.den.result) ≡ pos c.args.value.now.den = omega (arith, ints, c.den.ensures.value, c.num.ensures.bounds.den_small) in
    rw (up, down) (opposite_reduces c.args.value.now c.num.ensures.bounds)

pub returns : goal.returns
returns c =
    let up : to_z w128 (of_z w128 (pos 0 -ℤ to_z w128 (of_z w128 c.num.result))) ≡ neg_ℤ c.args.value.now.num = omega (arith, ints, c.num.ensures.value, c.num.ensures.bounds.num_small) in
    let down : to_z w128 (of_z w128 c.den.result) ≡ pos c.args.value.now.den = omega (arith, ints, c.den.ensures.value, c.num.ensures.bounds.den_small) in
    let same = opposite c.new.result c.args.value.now c.new.ensures.lowest c.num.ensures.bounds (rw (down, up) at c.new.ensures.value) in
    record { num = same.0; den = same.1; lowest = c.new.ensures.lowest }
