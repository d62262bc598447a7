use Rattle.std.proofs.Common.{pos, unsigned_abs, refl}
use Rattle.acas_areas.specs.Search.{low_time}
use Rattle.acas_witness_search.specs.Surveys.{search_of}
use Rattle.acas_witness_plans.proofs.Overs.{low_over}
use Rattle.acas_rulings.specs.Hunt.{low_course}
use Rattle.acas_meeting_search.specs.Courses.{unit_of}
use Rattle.acas_meeting_search.specs.View.{hunt_of}
use Rattle.acas_meeting_search.proofs.Pursuits.{rate_is}
use Rattle.acas_meeting_search.proofs.Turns.{outcome_of, turn_whole}
use Rattle.acas_meeting_search.proofs.search.lowest.Goals as goal

pub returns : goal.returns
returns c =
    let p = c.args.pursuit.now in
    let up = c.upward-turn in
    let against = turn_whole (unit_of p) (low_time (search_of p.survey)) p.survey.area.v1.greatest (pos (unsigned_abs p.may.rate)) p.survey.area.v1.greatest p.may.rate p.survey.low up.result
    up.ensures.time up.ensures.intruder refl up.ensures.goal (rate_is p) (low_over (search_of p.survey) p.survey.low_end.least) in
    outcome_of p (low_course (hunt_of p)) c.low_plan-plan.result up.result c.fly_against.result c.fly_against.ensures.plan c.fly_against.ensures.turn
    c.low_plan-plan.ensures.point c.low_plan-plan.ensures.flown against up.ensures.flown c.fly_against.ensures.climb c.fly_against.ensures.climb_some c.fly_against.ensures.ascent c.fly_against.ensures.ascent_some
