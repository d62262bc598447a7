use Rattle.std.proofs.Common.{◌≡◌, ◌∙◌, sym, ap, refl, inl, inr, ◌*◌, pos, ◌*ℤ◌, to_z, of_z, mul-pos}
use Rattle.std.specs.Int.{w64}
use Rattle.acas_areas.specs.declared.steps.TheConstants.{RATE_STEPS}
use Rattle.acas_areas.specs.Search.{unit, grain, over_square, hold_at_low, hold_at_high}
use Rattle.acas_witness_search.specs.Surveys.{search_of}
use Rattle.acas_witness_plans.proofs.Overs.{whole_over, low_hold_over, first_hold_over, hold_place_over, eighths_of}
use Rattle.acas_witness_search.proofs.Steps.{rate64, altitude64, steps64}
use Rattle.acas_witness_search.proofs.survey.Survey.at_hold.Goals as goal

pub returns-clause-point : goal.returns-clause-point
returns-clause-point c =
    let s = c.args.self.now in
    let p = mul-pos s.low_end.some s.high_end.some in
    let r : to_z w64 (of_z w64 c.rate_steps-rate.result) ≡ pos RATE_STEPS *ℤ s.area.v0.least = steps64 c.rate_steps-rate.result s.area.v0.least c.rate_steps-rate.ensures.value s.area.fits.own.least in
    let point = rw r at c.plan_from.ensures.point in
    let h = altitude64 c.plan_from.result.altitude c.plan_from.ensures.flown.altitude in
    record {
      time = point.time;
      altitude = h ∙ point.altitude;
      own = whole_over s.area.v0.least _ (unit (search_of s) * unit (search_of s)) _ c.whole_rate.ensures.same (rate64 s.area.v0.least s.area.fits.own.least);
      intruder = point.intruder;
      aim = point.aim;
      pull = rw (eighths_of s.area.v0.least (grain (search_of s))) point.pull;
      hold = hold_place_over (grain (search_of s)) c.args.number c.hold_at.result c.place.result c.low_hold.result c.high_hold.result c.from.result
          (hold_at_low (search_of s)) (hold_at_high (search_of s) (over_square (search_of s) s.area.v0.least)) c.hold_at.ensures.value c.place.ensures c.from.ensures
          (low_hold_over (search_of s) p ∙ ap (λ z. z * unit (search_of s)) (sym c.low_hold.ensures.value))
          (first_hold_over (search_of s) p ∙ ap (λ z. z * unit (search_of s)) (sym (rw r at c.high_hold.ensures.value)));
    }

pub returns-clause-flown : goal.returns-clause-flown
returns-clause-flown c =
    let l = c.plan_from.ensures.flown.limits in
    let e = c.plan_from.ensures in
    let h = altitude64 c.plan_from.result.altitude c.plan_from.ensures.flown.altitude in
    let w = c.whole_rate.ensures.same in
    let v : c.whole_rate.result.den ≡ 1 = rw w refl in
    record {
      limits = record { curve = record { start = c.whole_rate.ensures.rate; aim = l.curve.aim; pull = l.curve.pull; time = l.curve.time; fine = inl (v, e.aim, e.pull) }; hold = c.hold_at.ensures.hold; hold_fine = inr ((v, e.aim, e.pull), rw e.time c.args.self.now.high_end.den) };
      intruder = e.flown.intruder;
      altitude = rw h e.flown.altitude;
    }
