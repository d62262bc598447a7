use Rattle.std.proofs.Common.{unsigned_abs, arith}
use Rattle.std.proofs.lemmas.Int.{ints}
use Rattle.acas_tests_regions.proofs.areas.found_between.Goals as goal

pub window_of_box-window-requires : goal.window_of_box-window-requires
window_of_box-window-requires c = record {
  ahead = omega (arith, ints, c.if-range-ge0.true);
  slow = omega (arith, ints, c.if-closing-ge1.true);
  fast = omega (arith, ints, c.if-closing-le5000.true);
  short = omega (arith, ints, c.if-range-radius.true, c.radius-radius.ensures, c.if-radius-le5000.true, c.if-closing-ge1.true, c.if-closing-le5000.true, c.if-range-ge0.true, c.if-range-le3000000.true, c.args.range.ordered, c.args.closing.ordered);
}

pub of_box-requires-clause-spans : goal.of_box-requires-clause-spans
of_box-requires-clause-spans c = record {
  ahead = omega (arith, ints, c.if-range-ge0.true);
  slow = omega (arith, ints, c.if-closing-ge1.true);
  fast = omega (arith, ints, c.if-closing-le5000.true);
  short = omega (arith, ints, c.if-range-radius.true, c.radius-radius.ensures, c.if-radius-le5000.true, c.if-closing-ge1.true, c.if-closing-le5000.true, c.if-range-ge0.true, c.if-range-le3000000.true, c.args.range.ordered, c.args.closing.ordered);
}

pub of_box-requires-clause-during : goal.of_box-requires-clause-during
of_box-requires-clause-during c =
    let f = c.in-Some.flight.time in
    (c.window_of_box-window.ensures.exact f.den (unsigned_abs f.num) c.in-Some.ensures.time.some).0 c.in-Some.ensures.during
