use Rattle.std.proofs.Common.{◌∙◌, refl}
use Rattle.acas_areas.specs.Search.{grain}
use Rattle.acas_witness_search.specs.Surveys.{search_of}
use Rattle.acas_witness_plans.proofs.Overs.{falling_over}
use Rattle.acas_witness_search.proofs.Steps.{altitude64, falling64}
use Rattle.acas_witness_search.proofs.survey.Survey.at_intruder.Goals as goal

pub returns-clause-point : goal.returns-clause-point
returns-clause-point c =
    let s = c.args.self.now in
    let way = falling64 s.area.v1.greatest s.area.v1.least c.rate_steps.result c.rate_steps-2.result c.falling_place.result c.args.number c.rate_steps.ensures.value c.rate_steps-2.ensures.value s.area.fits.intruder.greatest s.area.fits.intruder.least s.area.v1.ordered c.falling_place.ensures in
    record {
      time = c.after_altitude.ensures.point.time;
      altitude = altitude64 c.after_altitude.result.altitude c.after_altitude.ensures.flown.altitude ∙ c.after_altitude.ensures.point.altitude;
      own = c.after_altitude.ensures.point.own;
      intruder = falling_over s.area.v1.greatest s.area.v1.least (grain (search_of s)) c.args.number c.rate_at.result _ _ _ _ c.rate_at.ensures.value way.0 refl refl refl;
      aim = c.after_altitude.ensures.point.aim;
      pull = c.after_altitude.ensures.point.pull;
      hold = c.after_altitude.ensures.point.hold;
    }

pub rate_at-requires : goal.rate_at-requires
rate_at-requires c =
    let s = c.args.self.now in
    (falling64 s.area.v1.greatest s.area.v1.least c.rate_steps.result c.rate_steps-2.result c.falling_place.result c.args.number c.rate_steps.ensures.value c.rate_steps-2.ensures.value s.area.fits.intruder.greatest s.area.fits.intruder.least s.area.v1.ordered c.falling_place.ensures).1
