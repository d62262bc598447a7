use Rattle.std.proofs.Common.{arith, ◌≡◌, ◌*◌, ◌≤ℤ◌, pos, neg_ℤ, unsigned_abs, to_z, of_z}
use Rattle.std.specs.Int.{w64}
use Rattle.std.proofs.lemmas.Int.{ints}
use Rattle.acas_units.specs.declared.limits.TheConstants.{GREATEST_RATE}
use Rattle.acas_areas.specs.declared.steps.TheConstants.{RATE_STEPS}
use Rattle.acas_areas.specs.Search.{grain}
use Rattle.acas_witness_search.specs.Surveys.{search_of}
use Rattle.acas_witness_plans.proofs.Overs.{falling_over, falling_size}
use Rattle.acas_meeting_search.proofs.pursuit.Pursuit.goal_at.Goals as goal

pub returns-clause-over : goal.returns-clause-over
returns-clause-over c =
    let m = c.args.self.now.may in
    falling_over (pos (unsigned_abs m.rate)) (neg_ℤ (pos (unsigned_abs m.rate))) (grain (search_of c.args.self.now.survey)) c.args.number c.rate_at.result _ c.falling_place.result _ _ c.rate_at.ensures.value (omega (arith, ints)) c.falling_place.ensures
    (omega (arith, ints, c.rate_steps-top.ensures.value, m.within.least_rate, m.within.greatest_rate)) (omega (arith, ints, c.rate_steps-bottom.ensures.value, m.within.least_rate, m.within.greatest_rate))

pub rate_at-requires : goal.rate_at-requires
rate_at-requires c =
    let m = c.args.self.now.may in
    let a : to_z w64 (of_z w64 c.rate_steps-top.result) ≡ c.rate_steps-top.result = omega (arith, ints, c.rate_steps-top.ensures.size) in
    let b : to_z w64 (of_z w64 c.rate_steps-bottom.result) ≡ c.rate_steps-bottom.result = omega (arith, ints, c.rate_steps-bottom.ensures.size) in
    let e = rw (a, b) at c.falling_place.ensures in
    let r : to_z w64 (of_z w64 c.falling_place.result) ≡ c.falling_place.result = omega (arith, ints) in
    let o : c.rate_steps-bottom.result ≤ℤ c.rate_steps-top.result = omega (arith, ints, c.rate_steps-top.ensures.value, c.rate_steps-bottom.ensures.value, m.within.least_rate, m.within.greatest_rate) in
    rw (r, e) (falling_size c.rate_steps-top.result c.rate_steps-bottom.result c.args.number (RATE_STEPS * unsigned_abs GREATEST_RATE) o c.rate_steps-top.ensures.size c.rate_steps-bottom.ensures.size)
