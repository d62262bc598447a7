use Rattle.acas_areas.specs.View.{demand_in, times_of, area_of}
use Rattle.acas_flight_lemmas.proofs.Gaps.{low_extreme_of, low_gap_of}
use Rattle.acas_region.proofs.extreme.low_of.Goals as goal

pub returns-clause-least : goal.returns-clause-least
returns-clause-least c =
    low_extreme_of (demand_in c.args.asked.now) (area_of c.args.area.now) (times_of c.args.window.now) c.least.result.time c.least.result.value
    c.least.ensures.lowest.some c.least.ensures.reduced c.least.ensures.end.least (rw c.low_chase.ensures at c.least.ensures.least)

pub returns-clause-value : goal.returns-clause-value
returns-clause-value c =
    let l = rw c.low_chase.ensures at c.least.ensures.least in
    low_gap_of (demand_in c.args.asked.now) (area_of c.args.area.now) c.least.result.time c.least.result.value l.value
