use Rattle.std.proofs.Common.{◌<◌, arith, mul-pos}
use Rattle.acas_areas.specs.Search.{unit}
use Rattle.acas_witness_search.specs.Surveys.{search_of, pass_of}
use Rattle.acas_witness_plans.proofs.Lines.{value-Same}
use Rattle.acas_witness_search.proofs.quantity.SearchPassPass.at.Goals as goal

pub returns-clause-value : goal.returns-clause-value
returns-clause-value c =
    let s = c.args.self.now.survey in
    let p : 0 < unit (search_of s) = mul-pos (omega arith) (mul-pos s.low_end.some s.high_end.some) in
    value-Same (unit (search_of s)) ((pass_of c.args.self.now.quantity (search_of s)).point c.args.number) c.plan_at.result c.fly.result.climb c.fly.result.intruder_end p
    c.plan_at.ensures.flown.intruder.some c.plan_at.ensures.flown.limits.curve.time.some c.plan_at.ensures.point c.fly.ensures.climb c.fly.ensures.end

pub returns-clause-point : goal.returns-clause-point
returns-clause-point c = rw c.fly.ensures.plan (c.plan_at.ensures.point, c.plan_at.ensures.flown)
