use Rattle.std.proofs.Common.{arith, mul-pos}
use Rattle.acas_areas.specs.Search.{unit, low_flight}
use Rattle.acas_witness_search.specs.Surveys.{search_of}
use Rattle.acas_witness_plans.proofs.Lines.{outcome_of}
use Rattle.acas_witness.proofs.finding.low_outcome.Goals as goal

pub returns : goal.returns
returns c =
    let s = c.args.survey.now in
    outcome_of (unit (search_of s)) (low_flight (search_of s)) c.low_plan.result c.fly.result (mul-pos (omega arith) (mul-pos s.low_end.some s.high_end.some))
    c.fly.ensures.plan c.low_plan.ensures.point c.low_plan.ensures.flown c.fly.ensures.climb c.fly.ensures.climb_some c.fly.ensures.end c.fly.ensures.end_some
