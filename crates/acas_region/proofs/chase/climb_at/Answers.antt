use Rattle.std.proofs.Common.{◌≡◌, ◌∙◌, unsigned_abs, to_z, of_z, arith, ◌*◌, ◌≤◌, mul-le-mul, rules}
use Rattle.std.specs.Int.{w64, w128}
use Rattle.std.proofs.lemmas.Int.{ints}
use Rattle.acas_region_curves.proofs.Products.{held_small, whole64}
use Rattle.acas_units.specs.declared.limits.TheConstants.{GREATEST_RATE, GREATEST_CLOSING, WINDOW_SECONDS}
use Rattle.acas_region.proofs.chase.climb_at.Goals as goal

pub returns : goal.returns
returns c =
    let at = c.args.at.now.within in
    let v : to_z w64 (of_z w64 c.args.start) ≡ c.args.start = whole64 c.args.start (omega (arith, c.requires.start)) in
    let k : to_z w64 (of_z w64 c.args.aim) ≡ c.args.aim = whole64 c.args.aim (omega (arith, c.requires.aim)) in
    let first = c.over.ensures.size (unsigned_abs GREATEST_RATE) GREATEST_CLOSING (rw v c.requires.start) at.den in
    let second = c.over-2.ensures.size (unsigned_abs GREATEST_RATE) GREATEST_CLOSING (rw k c.requires.aim) at.den in
    let a : to_z w64 (of_z w64 c.over.result) ≡ c.over.result = whole64 c.over.result (omega (arith, first)) in
    let b : to_z w64 (of_z w64 c.over-2.result) ≡ c.over-2.result = whole64 c.over-2.result (omega (arith, second)) in
    let up : to_z w128 (of_z w128 c.numerator.result) ≡ c.numerator.result = omega (arith, ints, c.numerator.ensures.size) in
    let value = up ∙ rw (a, b) at c.numerator.ensures.value in
    let long : c.args.at.now.num ≤ WINDOW_SECONDS * GREATEST_CLOSING = omega (arith, at.num, at.den) in
    let size = held_small c.over.result c.over-2.result c.args.pull (c.args.hold * c.args.at.now.den) c.args.at.now.num first second (mul-le-mul c.requires.pull long) in
    record { value = search rules; size = rw value size }

pub over-requires : goal.over-requires
over-requires c = search rules

pub over-requires-2 : goal.over-requires-2
over-requires-2 c = search rules

pub overflow_mul-hold : goal.overflow_mul-hold
overflow_mul-hold c = search rules

pub numerator-requires : goal.numerator-requires
numerator-requires c = search rules
