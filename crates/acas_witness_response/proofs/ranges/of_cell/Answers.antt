use Rattle.std.proofs.Common.{◌≡◌, ◌<◌, pos, to_z, of_z, arith, rules}
use Rattle.std.specs.Int.{w64}
use Rattle.std.proofs.lemmas.Int.{ints}
use Rattle.std.proofs.lemmas.Grind.{common_steps}
use Rattle.acas_witness_response.proofs.CellRanges.{cells_range, contact_of_cell}
use Rattle.acas_witness_response.proofs.ranges.of_cell.Goals as goal

pub returns-clause-rule : goal.returns-clause-rule
returns-clause-rule c =
    let m = c.args.model.now in
    let v = c.grid.ensures.valid in
    let n = c.time_parts-time.ensures in
    let er : c.natural.result ≡ m.radius = omega (arith, ints, c.natural.ensures, c.radius.ensures, v.radius) in
    let es : c.natural-2.result ≡ m.least_closing = omega (arith, ints, c.natural-2.ensures, c.closing-closing.ensures.least, v.closing, v.greatest_closing) in
    let ez : to_z w64 (of_z w64 c.closing-closing.result.least) ≡ pos m.least_closing = omega (arith, ints, c.closing-closing.ensures.least, v.closing, v.greatest_closing) in
    let some : 0 < m.least_closing = omega (arith, v.some_closing) in
    cells_range m c.args.n c.args.flight.time c.range_of.result c.whole.result c.time_parts-time.result.0 c.time_parts-time.result.1 some v.closing n.num n.den n.some c.requires.during c.range_of.ensures.some
    (rw (er, es, c.from.ensures) at c.range_of.ensures.value) (rw ez at c.whole.ensures)

pub returns-clause-contact : goal.returns-clause-contact
returns-clause-contact c =
    let m = c.args.model.now in
    let v = c.grid.ensures.valid in
    let n = c.time_parts-time.ensures in
    let er : c.natural.result ≡ m.radius = omega (arith, ints, c.natural.ensures, c.radius.ensures, v.radius) in
    let es : c.natural-2.result ≡ m.least_closing = omega (arith, ints, c.natural-2.ensures, c.closing-closing.ensures.least, v.closing, v.greatest_closing) in
    let ez : to_z w64 (of_z w64 c.closing-closing.result.least) ≡ pos m.least_closing = omega (arith, ints, c.closing-closing.ensures.least, v.closing, v.greatest_closing) in
    let some : 0 < m.least_closing = omega (arith, v.some_closing) in
    contact_of_cell m c.args.n c.args.flight.time c.range_of.result c.whole.result c.time_parts-time.result.0 c.time_parts-time.result.1 some v.closing n.num n.den n.some c.requires.during c.range_of.ensures.some
    (rw (er, es, c.from.ensures) at c.range_of.ensures.value) (rw ez at c.whole.ensures)

pub natural-requires : goal.natural-requires
natural-requires c = search rules

pub natural-requires-2 : goal.natural-requires-2
natural-requires-2 c = search rules

pub range_of-requires : goal.range_of-requires
range_of-requires c = grind (arith, common_steps)
