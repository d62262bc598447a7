use Rattle.std.proofs.Common.{◌≡◌, ◌∙◌, arith, pos, to_z, of_z}
use Rattle.std.specs.Int.{w64, w128}
use Rattle.std.proofs.lemmas.Int.{ints}
use Rattle.acas_region_curves.proofs.curve.held.Goals as goal

pub new-requires-clause-within : goal.new-requires-clause-within
new-requires-clause-within c =
    let up : to_z w128 (of_z w128 c.numerator.result) ≡ c.numerator.result = omega (arith, ints, c.numerator.ensures.size) in
    let v : to_z w64 (of_z w64 c.over_common-s.result.start) ≡ c.over_common-s.result.start = omega (arith, ints, c.over_common-s.ensures.start) in
    let k : to_z w64 (of_z w64 c.over_common-s.result.aim) ≡ c.over_common-s.result.aim = omega (arith, ints, c.over_common-s.ensures.aim) in
    let value = rw (v, k) at c.numerator.ensures.value in
    let lower : to_z w128 c.over_common-s.result.den ≡ pos c.over_common-s.result.den = omega (arith, ints, c.over_common-s.ensures.den_small) in
    rw (up ∙ value, lower) c.over_common-s.ensures.reduces

pub returns-clause-climb : goal.returns-clause-climb
returns-clause-climb c =
    let up : to_z w128 (of_z w128 c.numerator.result) ≡ c.numerator.result = omega (arith, ints, c.numerator.ensures.size) in
    let v : to_z w64 (of_z w64 c.over_common-s.result.start) ≡ c.over_common-s.result.start = omega (arith, ints, c.over_common-s.ensures.start) in
    let k : to_z w64 (of_z w64 c.over_common-s.result.aim) ≡ c.over_common-s.result.aim = omega (arith, ints, c.over_common-s.ensures.aim) in
    let value = rw (v, k) at c.numerator.ensures.value in
    let lower : to_z w128 c.over_common-s.result.den ≡ pos c.over_common-s.result.den = omega (arith, ints, c.over_common-s.ensures.den_small) in
    let whole = rw (lower, up ∙ value) at c.new.ensures.value in
    c.over_common-s.ensures.exact c.new.result whole
