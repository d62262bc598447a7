use Rattle.std.proofs.Common.{◌*◌, pos, neg_ℤ, unsigned_abs, refl}
use Rattle.acas_areas.specs.Passes.{toward}
use Rattle.acas_areas.specs.Search.{high_time, low_time, time_step}
use Rattle.acas_witness_search.specs.Surveys.{search_of}
use Rattle.acas_witness_plans.proofs.Overs.{high_over}
use Rattle.acas_meeting_search.specs.Courses.{unit_of}
use Rattle.acas_meeting_search.proofs.Pursuits.{least_rate_is, rate_is}
use Rattle.acas_meeting_search.proofs.Turns.{turn_whole}
use Rattle.acas_meeting_search.proofs.pursuit.Pursuit.turn_at.Goals as goal

pub returns-in-Time-clause-point : goal.returns-in-Time-clause-point
returns-in-Time-clause-point c =
    let p = c.args.self.now in
    let s = search_of p.survey in
    let o = rw (c.in-Of.is, c.in-Time.is) at c.requires.plan.time in
    rw (c.in-Of.is, c.in-Time.is) (turn_whole (unit_of p) (toward (low_time s) (high_time s) (c.args.number * time_step s)) p.survey.area.v1.greatest (pos (unsigned_abs p.may.rate)) p.survey.area.v1.greatest p.may.rate c.args.plan.now.time c.upward.result
    c.upward.ensures.time c.upward.ensures.intruder refl c.upward.ensures.goal (rate_is p) o)

pub returns-in-Altitude-clause-point : goal.returns-in-Altitude-clause-point
returns-in-Altitude-clause-point c =
    let p = c.args.self.now in
    let up = c.upward-in-Altitude in
    rw (c.in-Of.is, c.in-Altitude.is) (turn_whole (unit_of p) (high_time (search_of p.survey)) p.survey.area.v1.greatest (pos (unsigned_abs p.may.rate)) p.survey.area.v1.greatest p.may.rate p.survey.high up.result
    up.ensures.time up.ensures.intruder refl up.ensures.goal (rate_is p) (high_over (search_of p.survey) p.survey.high_end.least))

pub returns-in-Aim-clause-point : goal.returns-in-Aim-clause-point
returns-in-Aim-clause-point c =
    let p = c.args.self.now in
    let down = c.downward in
    rw (c.in-Of.is, c.in-Aim.is) (turn_whole (unit_of p) (high_time (search_of p.survey)) p.survey.area.v1.least (neg_ℤ (pos (unsigned_abs p.may.rate))) p.survey.area.v1.least (neg_ℤ p.may.rate) p.survey.high down.result
    down.ensures.time down.ensures.intruder refl down.ensures.goal (least_rate_is p) (high_over (search_of p.survey) p.survey.high_end.least))

pub returns-in-Pull-clause-point : goal.returns-in-Pull-clause-point
returns-in-Pull-clause-point c =
    let p = c.args.self.now in
    let down = c.downward-in-Pull in
    rw (c.in-Of.is, c.in-Pull.is) (turn_whole (unit_of p) (high_time (search_of p.survey)) p.survey.area.v1.least (neg_ℤ (pos (unsigned_abs p.may.rate))) p.survey.area.v1.least (neg_ℤ p.may.rate) p.survey.high down.result
    down.ensures.time down.ensures.intruder refl down.ensures.goal (least_rate_is p) (high_over (search_of p.survey) p.survey.high_end.least))

pub returns-in-Hold-clause-point : goal.returns-in-Hold-clause-point
returns-in-Hold-clause-point c =
    let p = c.args.self.now in
    let down = c.downward-in-Hold in
    rw (c.in-Of.is, c.in-Hold.is) (turn_whole (unit_of p) (high_time (search_of p.survey)) p.survey.area.v1.least (neg_ℤ (pos (unsigned_abs p.may.rate))) p.survey.area.v1.least (neg_ℤ p.may.rate) p.survey.high down.result
    down.ensures.time down.ensures.intruder refl down.ensures.goal (least_rate_is p) (high_over (search_of p.survey) p.survey.high_end.least))

pub returns-in-Own-clause-point : goal.returns-in-Own-clause-point
returns-in-Own-clause-point c =
    let p = c.args.self.now in
    let down = c.downward-in-Own in
    rw (c.in-Of.is, c.in-Own.is) (turn_whole (unit_of p) (high_time (search_of p.survey)) p.survey.area.v1.least (neg_ℤ (pos (unsigned_abs p.may.rate))) p.survey.area.v1.least (neg_ℤ p.may.rate) p.survey.high down.result
    down.ensures.time down.ensures.intruder refl down.ensures.goal (least_rate_is p) (high_over (search_of p.survey) p.survey.high_end.least))
