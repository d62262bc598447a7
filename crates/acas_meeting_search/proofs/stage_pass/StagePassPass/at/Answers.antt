use Rattle.std.proofs.Common.{arith}
use Rattle.std.proofs.lemmas.Grind.{common_steps}
use Rattle.acas_meeting_search.specs.Courses.{point_of}
use Rattle.acas_meeting_search.proofs.Turns.{outcome_of}
use Rattle.acas_meeting_search.proofs.stage_pass.StagePassPass.at.Goals as goal

pub returns-clause-point : goal.returns-clause-point
returns-clause-point c =
    let s = c.args.self.now in
    (outcome_of s.pursuit (point_of s.pursuit s.stage c.args.number) c.plan_at-plan.result c.turn_at-turn.result c.fly_against.result c.fly_against.ensures.plan c.fly_against.ensures.turn
    c.plan_at-plan.ensures.point c.plan_at-plan.ensures.flown c.turn_at-turn.ensures.point c.turn_at-turn.ensures.flown c.fly_against.ensures.climb c.fly_against.ensures.climb_some c.fly_against.ensures.ascent c.fly_against.ensures.ascent_some).flown

pub returns-clause-value : goal.returns-clause-value
returns-clause-value c =
    let s = c.args.self.now in
    (outcome_of s.pursuit (point_of s.pursuit s.stage c.args.number) c.plan_at-plan.result c.turn_at-turn.result c.fly_against.result c.fly_against.ensures.plan c.fly_against.ensures.turn
    c.plan_at-plan.ensures.point c.plan_at-plan.ensures.flown c.turn_at-turn.ensures.point c.turn_at-turn.ensures.flown c.fly_against.ensures.climb c.fly_against.ensures.climb_some c.fly_against.ensures.ascent c.fly_against.ensures.ascent_some).same

pub returns-clause-some : goal.returns-clause-some
returns-clause-some c = grind (arith, common_steps)
