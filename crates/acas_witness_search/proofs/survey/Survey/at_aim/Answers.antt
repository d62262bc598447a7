use Rattle.std.proofs.Common.{◌∙◌, ◌*◌, refl}
use Rattle.acas_areas.specs.Search.{unit, grain}
use Rattle.acas_witness_search.specs.Surveys.{search_of}
use Rattle.acas_witness_plans.proofs.Overs.{whole_over, rising_over}
use Rattle.acas_witness_search.proofs.Steps.{rate64, altitude64, rising64}
use Rattle.acas_witness_search.proofs.survey.Survey.at_aim.Goals as goal

pub returns-clause-point : goal.returns-clause-point
returns-clause-point c =
    let s = c.args.self.now in
    let way = rising64 s.lo s.hi c.rate_steps.result c.rate_steps-2.result c.rising_place.result c.args.number c.rate_steps.ensures.value c.rate_steps-2.ensures.value s.asked.lo s.asked.hi s.asked.ordered c.rising_place.ensures in
    record {
      time = c.after_altitude.ensures.point.time;
      altitude = altitude64 c.after_altitude.result.altitude c.after_altitude.ensures.flown.altitude ∙ c.after_altitude.ensures.point.altitude;
      own = c.after_altitude.ensures.point.own;
      intruder = whole_over s.area.v1.least _ (unit (search_of s) * unit (search_of s)) _ c.whole_rate.ensures.same (rate64 s.area.v1.least s.area.fits.intruder.least);
      aim = rising_over s.lo s.hi (grain (search_of s)) c.args.number c.rate_at.result _ _ _ _ c.rate_at.ensures.value way.0 refl refl refl;
      pull = c.after_altitude.ensures.point.pull;
      hold = c.after_altitude.ensures.point.hold;
    }

pub rate_at-requires : goal.rate_at-requires
rate_at-requires c =
    let s = c.args.self.now in
    (rising64 s.lo s.hi c.rate_steps.result c.rate_steps-2.result c.rising_place.result c.args.number c.rate_steps.ensures.value c.rate_steps-2.ensures.value s.asked.lo s.asked.hi s.asked.ordered c.rising_place.ensures).1
