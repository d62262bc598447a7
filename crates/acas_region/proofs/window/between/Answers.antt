use Rattle.std.proofs.Common.{◌≡◌, ◌+◌, ◌-◌, ◌≤◌, arith, mul-le-mul}
use Rattle.acas_flight_windows.proofs.Ends as ends
use Rattle.acas_region.proofs.window.between.Goals as goal

pub invariant_of-result : goal.invariant_of-result
invariant_of-result c =
    let m : c.saturating_sub.result ≡ c.args.near - c.args.radius = omega (arith, c.saturating_sub.ensures) in
    let wide : c.args.near - c.args.radius ≤ c.args.far + c.args.radius = omega arith in
    record {
      ends = record {
        from = c.time_of.ensures.end;
        to = c.time_of-2.ensures.end;
        order = ends.ordered c.time_of.result c.time_of-2.result (c.args.near - c.args.radius) c.args.fast (c.args.far + c.args.radius) c.args.slow
            c.time_of.ensures.end.some c.time_of-2.ensures.end.some (omega arith) c.requires.some (rw m at c.time_of.ensures.value) c.time_of-2.ensures.value (mul-le-mul wide c.requires.speeds);
      };
    }

pub returns-clause-from : goal.returns-clause-from
returns-clause-from c =
    let m : c.saturating_sub.result ≡ c.args.near - c.args.radius = omega (arith, c.saturating_sub.ensures) in
    rw m at c.time_of.ensures.value
