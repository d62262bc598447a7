use Rattle.std.proofs.Common.{◌≡◌, ◌∙◌, sym, ap, ◌*◌, pos, ◌*ℤ◌, to_z, of_z, mul-pos}
use Rattle.std.specs.Int.{w64}
use Rattle.acas_areas.specs.declared.steps.TheConstants.{RATE_STEPS}
use Rattle.acas_areas.specs.Search.{unit, grain, over_square, pull_at_low, pull_at_high}
use Rattle.acas_witness_search.specs.Surveys.{search_of}
use Rattle.acas_witness_plans.proofs.Overs.{whole_over, low_pull_over, first_pull_over, pull_place_over}
use Rattle.acas_witness_search.proofs.Steps.{rate64, altitude64, steps64}
use Rattle.acas_witness_search.proofs.survey.Survey.at_pull.Goals as goal

pub returns-clause-point : goal.returns-clause-point
returns-clause-point c =
    let s = c.args.self.now in
    let p = mul-pos s.low_end.some s.high_end.some in
    let r : to_z w64 (of_z w64 c.rate_steps.result) ≡ pos RATE_STEPS *ℤ s.area.v0.least = steps64 c.rate_steps.result s.area.v0.least c.rate_steps.ensures.value s.area.fits.own.least in
    record {
      time = c.after_altitude.ensures.point.time;
      altitude = altitude64 c.after_altitude.result.altitude c.after_altitude.ensures.flown.altitude ∙ c.after_altitude.ensures.point.altitude;
      own = c.after_altitude.ensures.point.own;
      intruder = whole_over s.area.v1.least _ (unit (search_of s) * unit (search_of s)) _ c.whole_rate.ensures.same (rate64 s.area.v1.least s.area.fits.intruder.least);
      aim = whole_over s.hi _ (unit (search_of s) * unit (search_of s)) _ c.whole_rate-2.ensures.same (rate64 s.hi s.asked.hi);
      pull = pull_place_over (grain (search_of s)) c.args.number c.pull_at.result c.place.result c.low_pull.result c.high_pull-last.result c.from.result
          (pull_at_low (search_of s)) (pull_at_high (search_of s) (over_square (search_of s) s.area.v0.least)) c.pull_at.ensures.value c.place.ensures c.from.ensures
          (low_pull_over (search_of s) p ∙ ap (λ z. z * unit (search_of s)) (sym c.low_pull.ensures.value))
          (first_pull_over (search_of s) p ∙ ap (λ z. z * unit (search_of s)) (sym (rw r at c.high_pull-last.ensures.value)));
      hold = c.after_altitude.ensures.point.hold;
    }
