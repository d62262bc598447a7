use Rattle.std.proofs.Common.{◌≡◌, ap, pos, neg_ℤ, ◌*ℤ◌, unsigned_abs, refl, to_z, of_z, arith}
use Rattle.std.specs.Int.{w64}
use Rattle.std.proofs.lemmas.Int.{ints}
use Rattle.acas_areas.specs.declared.steps.TheConstants.{RATE_STEPS}
use Rattle.acas_areas.specs.Search.{grain, high_flight, high_flight_from, high_time}
use Rattle.acas_witness_search.specs.Surveys.{search_of}
use Rattle.acas_witness_plans.specs.Plans.{IsPlanOf}
use Rattle.acas_witness_plans.proofs.Overs.{eighths_of, high_over}
use Rattle.acas_rulings.specs.Hunt.{high_course}
use Rattle.acas_meeting_search.specs.Courses.{unit_of}
use Rattle.acas_meeting_search.specs.View.{hunt_of}
use Rattle.acas_meeting_search.proofs.Pursuits.{least_rate_is}
use Rattle.acas_meeting_search.proofs.Turns.{outcome_of, turn_whole}
use Rattle.acas_meeting_search.proofs.search.highest.Goals as goal

pub returns : goal.returns
returns c =
    let p = c.args.pursuit.now in
    let s = p.survey in
    let down = c.downward-turn in
    let against = turn_whole (unit_of p) (high_time (search_of s)) s.area.v1.least (neg_ℤ (pos (unsigned_abs p.may.rate))) s.area.v1.least (neg_ℤ p.may.rate) s.high down.result
    down.ensures.time down.ensures.intruder refl down.ensures.goal (least_rate_is p) (high_over (search_of s) s.high_end.least) in
    let r : to_z w64 (of_z w64 c.rate_steps.result) ≡ pos RATE_STEPS *ℤ c.args.pursuit.now.survey.area.v0.greatest = omega (arith, ints, c.rate_steps.ensures.value, s.area.fits.own.greatest) in
    let same = ap (high_flight_from (search_of s)) (eighths_of s.area.v0.greatest (grain (search_of s))) in
    let point : IsPlanOf (unit_of p) (high_flight (search_of s)) c.plan_from-plan.result = rw same (rw r at c.plan_from-plan.ensures.point) in
    outcome_of p (high_course (hunt_of p)) c.plan_from-plan.result down.result c.fly_against.result c.fly_against.ensures.plan c.fly_against.ensures.turn
    point c.plan_from-plan.ensures.flown against down.ensures.flown c.fly_against.ensures.climb c.fly_against.ensures.climb_some c.fly_against.ensures.ascent c.fly_against.ensures.ascent_some
