use Rattle.std.proofs.Common.{◌≡◌, pos, arith, rules}
use Rattle.std.proofs.lemmas.Int.{ints}
use Rattle.std.proofs.lemmas.Grind.{common_steps}
use Rattle.acas_areas.specs.Limits.{interval_of}
use Rattle.acas_witness_response.proofs.BoxRanges.{pair_renamed}
use Rattle.acas_witness_response.proofs.ranges.of_box.Goals as goal

pub natural-requires-3 : goal.natural-requires-3
natural-requires-3 c = omega (arith, ints, c.requires.spans.ahead, c.args.range.ordered)

pub natural-requires-4 : goal.natural-requires-4
natural-requires-4 c = omega (arith, ints, c.requires.spans.slow)

pub natural-requires-5 : goal.natural-requires-5
natural-requires-5 c = omega (arith, ints, c.requires.spans.slow, c.args.closing.ordered)

pub pair_of-found-requires-clause-during : goal.pair_of-found-requires-clause-during
pair_of-found-requires-clause-during c = grind (arith, common_steps)

pub returns : goal.returns
returns c =
    let v = c.grid.ensures.valid in
    let e : c.natural.result ≡ c.args.model.now.radius = omega (arith, ints, c.natural.ensures, c.radius.ensures, v.radius) in
    let e1 : c.args.range.least ≡ pos c.natural-2.result = omega (arith, ints, c.natural-2.ensures) in
    let e2 : c.args.range.greatest ≡ pos c.natural-3.result = omega (arith, ints, c.natural-3.ensures) in
    let e3 : c.args.closing.least ≡ pos c.natural-4.result = omega (arith, ints, c.natural-4.ensures) in
    let e4 : c.args.closing.greatest ≡ pos c.natural-5.result = omega (arith, ints, c.natural-5.ensures) in
    let both = pair_renamed c.natural.result c.args.model.now.radius c.natural-2.result c.natural-3.result c.natural-4.result c.natural-5.result (interval_of c.args.range) (interval_of c.args.closing) c.args.flight.time c.pair_of-found.result.0 c.pair_of-found.result.1 e e1 e2 e3 e4
    (c.pair_of-found.ensures.rule, c.pair_of-found.ensures.contact) in
    record { flight = search rules; rule = both.0; contact = both.1 }

pub pair_of-found-requires-clause-ranges : goal.pair_of-found-requires-clause-ranges
pair_of-found-requires-clause-ranges c = grind (arith, common_steps)

pub pair_of-found-requires-clause-far : goal.pair_of-found-requires-clause-far
pair_of-found-requires-clause-far c = grind (arith, common_steps)

pub pair_of-found-requires-clause-speeds : goal.pair_of-found-requires-clause-speeds
pair_of-found-requires-clause-speeds c = grind (arith, common_steps)

pub pair_of-found-requires-clause-fast : goal.pair_of-found-requires-clause-fast
pair_of-found-requires-clause-fast c = grind (arith, common_steps)
