use Rattle.acas_areas.specs.View.{demand_in, times_of, area_of}
use Rattle.acas_flight_lemmas.proofs.Gaps.{high_extreme_of}
use Rattle.acas_flight_windows.proofs.LeastGaps.{high_gap}
use Rattle.acas_region.proofs.extreme.high_of.Goals as goal

pub returns-clause-greatest : goal.returns-clause-greatest
returns-clause-greatest c =
    let t = c.least-turned in
    high_extreme_of (demand_in c.args.asked.now) (area_of c.args.area.now) (times_of c.args.window.now) t.result.time t.result.value
    t.ensures.lowest.some t.ensures.reduced t.ensures.end.least (rw c.high_chase.ensures at t.ensures.least)

pub returns-clause-value : goal.returns-clause-value
returns-clause-value c =
    let l = rw c.high_chase.ensures at c.least-turned.ensures.least in
    high_gap (demand_in c.args.asked.now) (area_of c.args.area.now) c.least-turned.result.time c.least-turned.result.value c.negate.result
    l.value (c.negate.ensures.num, c.negate.ensures.den)
