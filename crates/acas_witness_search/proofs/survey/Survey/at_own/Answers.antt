use Rattle.std.proofs.Common.{refl}
use Rattle.acas_witness_search.specs.Surveys.{search_of}
use Rattle.acas_witness_plans.proofs.Overs.{rate_place_over}
use Rattle.acas_witness_search.proofs.Steps.{rising64}
use Rattle.acas_witness_search.proofs.survey.Survey.at_own.Goals as goal

pub returns-clause-point : goal.returns-clause-point
returns-clause-point c =
    let s = c.args.self.now in
    let way = rising64 s.area.v0.least s.area.v0.greatest c.rate_steps.result c.rate_steps-2.result c.rising_place.result c.args.number c.rate_steps.ensures.value c.rate_steps-2.ensures.value s.area.fits.own.least s.area.fits.own.greatest s.area.v0.ordered c.rising_place.ensures in
    rw (rate_place_over (search_of s) c.args.number _ _ _ _ way.0 refl refl refl) c.plan_from.ensures.point

pub plan_from-requires : goal.plan_from-requires
plan_from-requires c =
    let s = c.args.self.now in
    (rising64 s.area.v0.least s.area.v0.greatest c.rate_steps.result c.rate_steps-2.result c.rising_place.result c.args.number c.rate_steps.ensures.value c.rate_steps-2.ensures.value s.area.fits.own.least s.area.fits.own.greatest s.area.v0.ordered c.rising_place.ensures).1
