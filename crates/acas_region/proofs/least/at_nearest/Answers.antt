use Rattle.acas_areas.specs.View.{times_of, time_at}
use Rattle.acas_flight.specs.Border.{border_of}
use Rattle.acas_flight_lemmas.proofs.Numbers.{natural}
use Rattle.acas_flight_windows.proofs.LeastGaps.{least_of_nearest}
use Rattle.acas_flight_windows.proofs.NearestTimes.{nearest_same}
use Rattle.acas_region.proofs.least.at_nearest.Goals as goal

pub returns-clause-least : goal.returns-clause-least
returns-clause-least c =
    let a = c.args.chase.now in
    let time = c.time_of-time.result in
    let near = nearest_same (border_of a.start a.aim a.pull a.hold a.height a.rate) (times_of c.args.window.now) time (time_at c.nearest-at.result) c.nearest-at.result.within.some c.time_of-time.ensures.value c.nearest-at.ensures in
    natural time.num c.time_of-time.ensures.end.least (λ n en.
    least_of_nearest a.start a.aim a.pull a.hold a.height a.rate (times_of c.args.window.now) time c.gap.result n c.requires c.args.chase.now.fits.some c.args.window.now.ends
    en c.time_of-time.ensures.end.some c.gap.ensures.lowest.some c.gap.ensures.value near)
