use Rattle.std.proofs.Common.{◌≡◌, ap, pos, ◌*ℤ◌, to_z, of_z, arith, mul-pos}
use Rattle.std.specs.Int.{w64}
use Rattle.std.proofs.lemmas.Int.{ints}
use Rattle.acas_areas.specs.declared.steps.TheConstants.{RATE_STEPS}
use Rattle.acas_areas.specs.Search.{unit, grain, high_flight_from, high_flight}
use Rattle.acas_witness_search.specs.Surveys.{search_of}
use Rattle.acas_witness_plans.proofs.Lines.{outcome_of}
use Rattle.acas_witness_plans.proofs.Overs.{eighths_of}
use Rattle.acas_witness_plans.specs.Plans.{IsPlanOf}
use Rattle.acas_witness.proofs.finding.high_outcome.Goals as goal

pub returns : goal.returns
returns c =
    let s = c.args.survey.now in
    let r : to_z w64 (of_z w64 c.rate_steps.result) ≡ pos RATE_STEPS *ℤ s.area.v0.greatest = omega (arith, ints, c.rate_steps.ensures.value, s.area.fits.own.greatest) in
    let same = ap (high_flight_from (search_of s)) (eighths_of s.area.v0.greatest (grain (search_of s))) in
    let point : IsPlanOf (unit (search_of s)) (high_flight (search_of s)) c.plan_from.result = rw same (rw r at c.plan_from.ensures.point) in
    outcome_of (unit (search_of s)) (high_flight (search_of s)) c.plan_from.result c.fly.result (mul-pos (omega arith) (mul-pos s.low_end.some s.high_end.some))
    c.fly.ensures.plan point c.plan_from.ensures.flown c.fly.ensures.climb c.fly.ensures.climb_some c.fly.ensures.end c.fly.ensures.end_some
