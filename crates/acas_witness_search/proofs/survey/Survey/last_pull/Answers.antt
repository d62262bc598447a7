use Rattle.std.proofs.Common.{◌≡◌, ◌∙◌, sym, ap, ◌*◌, ◌<◌, pos, ◌*ℤ◌, to_z, of_z, arith, mul-pos}
use Rattle.std.specs.Int.{w64}
use Rattle.std.proofs.lemmas.Int.{ints}
use Rattle.acas_areas.specs.declared.steps.TheConstants.{RATE_STEPS}
use Rattle.acas_areas.specs.Search.{unit, grain, over_square, pull_at_low, pull_at_high, pull_pass}
use Rattle.acas_witness_search.specs.Surveys.{search_of}
use Rattle.acas_witness_plans.proofs.Overs.{low_pull_over, first_pull_over}
use Rattle.acas_witness_plans.proofs.Ways.{exact_last, pulls_way}
use Rattle.acas_witness_search.proofs.survey.Survey.last_pull.Goals as goal

pub returns : goal.returns
returns c =
    let s = c.args.self.now in
    let p = mul-pos s.low_end.some s.high_end.some in
    let r : to_z w64 (of_z w64 c.rate_steps.result) ≡ pos RATE_STEPS *ℤ s.area.v0.least = omega (arith, ints, c.rate_steps.ensures.value, s.area.fits.own.least) in
    exact_last (pull_pass (search_of s)) _ (pulls_way (pull_at_low (search_of s)) (pull_at_high (search_of s) (over_square (search_of s) s.area.v0.least)) c.low_pull.result c.high_pull-last.result (grain (search_of s)) c.way.result
    (low_pull_over (search_of s) p ∙ ap (λ z. z * unit (search_of s)) (sym c.low_pull.ensures.value))
    (first_pull_over (search_of s) p ∙ ap (λ z. z * unit (search_of s)) (sym (rw r at c.high_pull-last.ensures.value)))
    c.way.ensures) (let q : 0 < grain (search_of s) = p in q)
