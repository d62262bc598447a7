use Rattle.std.proofs.Common.{◌*◌, ◌≤◌, sym}
use Rattle.acas_flight.specs.Response.{demand_of}
use Rattle.acas_areas.specs.View.{area_of, times_of}
use Rattle.acas_areas.specs.Value.{thinnest}
use Rattle.acas_areas.specs.Search.{CanMeet, IsSearch}
use Rattle.acas_witness_search.specs.Surveys.{search_of}
use Rattle.acas_rulings.specs.Witness.{search_between}
use Rattle.acas_witness.specs.FoundPlans.{IsFoundPlan}
use Rattle.acas_witness_search.proofs.Chains.{search_fine}
use Rattle.acas_witness_lemmas.proofs.Meetings.{can_meet, renamed}
use Rattle.acas_witness.proofs.finding.plan_in.Goals as goal

pub meet-requires : goal.meet-requires
meet-requires c =
    let m = c.args.model.now in
    let l = c.low_extreme-low in
    let h = c.high_extreme-high in
    let s = search_between (demand_of m c.args.advisory) (area_of c.args.area.now) l.result.time h.result.time in
    renamed CanMeet c.survey_of.result.half m.half s (search_of c.survey_of.result) (sym c.survey_of.ensures.half) (sym c.survey_of.ensures.search)
    (can_meet m.half (demand_of m c.args.advisory) (area_of c.args.area.now) (times_of c.args.window.now) l.result.time h.result.time
    l.ensures.least h.ensures.greatest c.requires.not_clear)

pub returns-clause-plan : goal.returns-clause-plan
returns-clause-plan c =
    let m = c.args.model.now in
    let l = c.low_extreme-low in
    let h = c.high_extreme-high in
    let s = search_between (demand_of m c.args.advisory) (area_of c.args.area.now) l.result.time h.result.time in
    let fine = renamed (λ n x. IsSearch x) m.half c.survey_of.result.half (search_of c.survey_of.result) s c.survey_of.ensures.half c.survey_of.ensures.search (search_fine c.survey_of.result) in
    record {
      low = l.result.time;
      high = h.result.time;
      at_low = l.ensures.least;
      at_high = h.ensures.greatest;
      low_end = l.ensures.end;
      high_end = h.ensures.end;
      thick = renamed (λ n x. thinnest ≤ 2 * n) m.half c.survey_of.result.half (search_of c.survey_of.result) s c.survey_of.ensures.half c.survey_of.ensures.search c.survey_of.result.thick;
      fine = fine;
      can = can_meet m.half (demand_of m c.args.advisory) (area_of c.args.area.now) (times_of c.args.window.now) l.result.time h.result.time
          l.ensures.least h.ensures.greatest c.requires.not_clear;
      found = renamed (λ n x. IsFoundPlan n x c.meet.result) m.half c.survey_of.result.half (search_of c.survey_of.result) s c.survey_of.ensures.half c.survey_of.ensures.search c.meet.ensures.found;
    }

pub returns-clause-flown : goal.returns-clause-flown
returns-clause-flown c = c.meet.ensures.flown
