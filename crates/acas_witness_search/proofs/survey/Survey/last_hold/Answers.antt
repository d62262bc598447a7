use Rattle.std.proofs.Common.{◌≡◌, ◌∙◌, sym, ap, ◌*◌, ◌<◌, pos, ◌*ℤ◌, to_z, of_z, arith, mul-pos}
use Rattle.std.specs.Int.{w64}
use Rattle.std.proofs.lemmas.Int.{ints}
use Rattle.acas_areas.specs.declared.steps.TheConstants.{RATE_STEPS}
use Rattle.acas_areas.specs.Search.{unit, grain, over_square, hold_at_low, hold_at_high, hold_pass}
use Rattle.acas_witness_search.specs.Surveys.{search_of}
use Rattle.acas_witness_plans.proofs.Overs.{low_hold_over, first_hold_over}
use Rattle.acas_witness_plans.proofs.Ways.{exact_last, holds_way}
use Rattle.acas_witness_search.proofs.survey.Survey.last_hold.Goals as goal

pub returns : goal.returns
returns c =
    let s = c.args.self.now in
    let p = mul-pos s.low_end.some s.high_end.some in
    let r : to_z w64 (of_z w64 c.rate_steps.result) ≡ pos RATE_STEPS *ℤ s.area.v0.least = omega (arith, ints, c.rate_steps.ensures.value, s.area.fits.own.least) in
    exact_last (hold_pass (search_of s)) _ (holds_way (hold_at_low (search_of s)) (hold_at_high (search_of s) (over_square (search_of s) s.area.v0.least)) c.low_hold.result c.high_hold-last.result (grain (search_of s)) c.way.result
    (low_hold_over (search_of s) p ∙ ap (λ z. z * unit (search_of s)) (sym c.low_hold.ensures.value))
    (first_hold_over (search_of s) p ∙ ap (λ z. z * unit (search_of s)) (sym (rw r at c.high_hold-last.ensures.value)))
    c.way.ensures) (let q : 0 < 8 * grain (search_of s) = mul-pos (omega arith) p in q)
