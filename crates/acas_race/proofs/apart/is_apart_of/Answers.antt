use Rattle.std.proofs.Common.{◌↔◌, subst, IsTrue}
use Rattle.acas_areas.specs.View.{area_of, demand_in, times_of}
use Rattle.acas_rulings.specs.Race.{Race, high_race, low_race, turned}
use Rattle.acas_rulings.specs.Apart.{StaysAbove, StaysBelow}
use Rattle.acas_manoeuvre_lemmas.proofs.Stays.{below-turned}
use Rattle.acas_rulings.specs.MeetingView.{may_of}
use Rattle.acas_race.proofs.Tests.{either}
use Rattle.acas_race.proofs.apart.is_apart_of.Goals as goal

pub returns-else-stays_above : goal.returns-else-stays_above
returns-else-stays_above c =
    let demand = demand_in c.args.asked.now in
    let may = may_of c.args.may.now in
    let area = area_of c.args.area.now in
    let w = times_of c.args.window.now in
    either (StaysAbove c.args.half (low_race demand may area) w) (StaysAbove c.args.half (turned (high_race demand may area)) w) (StaysBelow c.args.half (high_race demand may area) w) c.stays_above.result c.stays_above-else-stays_above.result c.if-stays_above.false
    (subst (λ (r : Race). IsTrue c.stays_above.result ↔ StaysAbove c.args.half r w) c.low_contest.ensures c.stays_above.ensures)
    (subst (λ (r : Race). IsTrue c.stays_above-else-stays_above.result ↔ StaysAbove c.args.half r w) c.high_contest.ensures c.stays_above-else-stays_above.ensures) (below-turned c.args.half (high_race demand may area) w)
