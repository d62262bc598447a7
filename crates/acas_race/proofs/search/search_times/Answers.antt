use Rattle.std.proofs.Common.{subst}
use Rattle.acas_flight.specs.Response.{Demand}
use Rattle.acas_areas.specs.View.{area_of, times_of}
use Rattle.acas_rulings.specs.Least.{IsRaceExtreme}
use Rattle.acas_rulings.specs.Race.{Race, high_race, low_race, turned}
use Rattle.acas_rulings.specs.MeetingView.{may_of}
use Rattle.acas_race.proofs.search.search_times.Goals as goal

pub returns-clause-low : goal.returns-clause-low
returns-clause-low c =
    let w = times_of c.args.on.now.window.now in
    subst (λ (a : Demand). IsRaceExtreme (low_race a (may_of c.args.on.now.may.now) (area_of c.args.on.now.area.now)) w c.nearest_time.result) c.asked_by-asked.ensures
    (subst (λ (r : Race). IsRaceExtreme r w c.nearest_time.result) c.low_contest.ensures c.nearest_time.ensures.extreme)

pub returns-clause-high : goal.returns-clause-high
returns-clause-high c =
    let w = times_of c.args.on.now.window.now in
    subst (λ (a : Demand). IsRaceExtreme (turned (high_race a (may_of c.args.on.now.may.now) (area_of c.args.on.now.area.now))) w c.nearest_time-2.result) c.asked_by-asked.ensures
    (subst (λ (r : Race). IsRaceExtreme r w c.nearest_time-2.result) c.high_contest.ensures c.nearest_time-2.ensures.extreme)
