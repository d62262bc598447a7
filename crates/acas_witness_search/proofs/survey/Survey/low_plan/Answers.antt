use Rattle.std.proofs.Common.{◌∙◌, sym, ap, refl, ◌*◌, mul-pos}
use Rattle.acas_areas.specs.Search.{unit, pull_at_low, hold_at_low}
use Rattle.acas_witness_search.specs.Surveys.{search_of}
use Rattle.acas_witness_plans.proofs.Overs.{whole_over, whole_over_ℕ, low_over, low_pull_over, low_hold_over}
use Rattle.acas_witness_search.proofs.Steps.{rate64, altitude64}
use Rattle.acas_witness_search.proofs.survey.Survey.low_plan.Goals as goal

pub returns-clause-point : goal.returns-clause-point
returns-clause-point c =
    let s = c.args.self.now in
    let p = mul-pos s.low_end.some s.high_end.some in
    record {
      time = low_over (search_of s) s.low_end.least;
      altitude = altitude64 s.area.h.greatest s.area.fits.altitude.greatest;
      own = whole_over s.area.v0.least _ (unit (search_of s) * unit (search_of s)) _ c.whole_rate.ensures.same (rate64 s.area.v0.least s.area.fits.own.least);
      intruder = whole_over s.area.v1.greatest _ (unit (search_of s) * unit (search_of s)) _ c.whole_rate-2.ensures.same (rate64 s.area.v1.greatest s.area.fits.intruder.greatest);
      aim = whole_over s.lo _ (unit (search_of s) * unit (search_of s)) _ c.whole_rate-3.ensures.same (rate64 s.lo s.asked.lo);
      pull = whole_over_ℕ c.low_pull.result _ (unit (search_of s)) (pull_at_low (search_of s)) _ c.whole_pull.ensures.same refl (low_pull_over (search_of s) p ∙ ap (λ z. z * unit (search_of s)) (sym c.low_pull.ensures.value));
      hold = whole_over_ℕ c.low_hold.result _ (unit (search_of s)) (hold_at_low (search_of s)) _ c.whole_hold.ensures.same refl (low_hold_over (search_of s) p ∙ ap (λ z. z * unit (search_of s)) (sym c.low_hold.ensures.value));
    }
