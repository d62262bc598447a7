use Rattle.std.proofs.Common.{◌≡◌, ◌∙◌, sym, ap, refl, ◌*◌, pos, ◌*ℤ◌, to_z, of_z, arith, mul-pos}
use Rattle.std.specs.Int.{w64}
use Rattle.std.proofs.lemmas.Int.{ints}
use Rattle.acas_areas.specs.Search.{unit, grain, rate_step, pull_at_high, hold_at_high}
use Rattle.acas_witness_search.specs.Surveys.{search_of}
use Rattle.acas_witness_plans.proofs.Overs.{whole_over, whole_over_ℕ, eighth_over, high_over, high_pull_over, high_hold_over}
use Rattle.acas_witness_search.proofs.Steps.{rate64, altitude64}
use Rattle.acas_witness_search.proofs.survey.Survey.plan_from.Goals as goal

pub returns-clause-point : goal.returns-clause-point
returns-clause-point c =
    let s = c.args.self.now in
    let p = mul-pos s.low_end.some s.high_end.some in
    let r : to_z w64 (of_z w64 c.args.rate) ≡ c.args.rate = omega (arith, ints) in
    record {
      time = high_over (search_of s) s.high_end.least;
      altitude = altitude64 s.area.h.least s.area.fits.altitude.least;
      own = eighth_over c.rate_at.result c.args.rate (grain (search_of s)) (rw r at c.rate_at.ensures.value);
      intruder = whole_over s.area.v1.least _ (unit (search_of s) * unit (search_of s)) _ c.whole_rate.ensures.same (rate64 s.area.v1.least s.area.fits.intruder.least);
      aim = whole_over s.hi _ (unit (search_of s) * unit (search_of s)) _ c.whole_rate-2.ensures.same (rate64 s.hi s.asked.hi);
      pull = whole_over_ℕ c.high_pull.result _ (unit (search_of s)) (pull_at_high (search_of s) (c.args.rate *ℤ pos (rate_step (search_of s)))) _ c.whole_pull.ensures.same refl (high_pull_over (search_of s) c.args.rate p ∙ ap (λ z. z * unit (search_of s)) (sym (rw r at c.high_pull.ensures.value)));
      hold = whole_over_ℕ c.high_hold.result _ (unit (search_of s)) (hold_at_high (search_of s) (c.args.rate *ℤ pos (rate_step (search_of s)))) _ c.whole_hold.ensures.same refl (high_hold_over (search_of s) c.args.rate p ∙ ap (λ z. z * unit (search_of s)) (sym (rw r at c.high_hold.ensures.value)));
    }
