use Rattle.std.proofs.Common.{◌+◌, ◌*◌, arith}
use Rattle.acas_flight_windows.proofs.Ends as ends
use Rattle.acas_region.proofs.window.through.Goals as goal

pub invariant_of-result : goal.invariant_of-result
invariant_of-result c =
    record {
      ends = record {
        from = c.time_of.ensures.end;
        to = c.time_of-2.ensures.end;
        order = ends.ordered c.time_of.result c.time_of-2.result c.args.n 1 ((c.args.n + 1) * c.args.slow + 2 * c.args.radius) c.args.slow
            c.time_of.ensures.end.some c.time_of-2.ensures.end.some (omega arith) c.requires.some c.time_of.ensures.value c.time_of-2.ensures.value (omega arith);
      };
    }
