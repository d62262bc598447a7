use Rattle.std.proofs.Common.{unsigned_abs}
use Rattle.acas_tests_regions.proofs.areas.found_in_cell.Goals as goal

pub of_cell-requires-clause-during : goal.of_cell-requires-clause-during
of_cell-requires-clause-during c =
    let f = c.in-Some.flight.time in
    (c.window_of_cell-window.ensures.exact f.den (unsigned_abs f.num) c.in-Some.ensures.time.some).0 c.in-Some.ensures.during
