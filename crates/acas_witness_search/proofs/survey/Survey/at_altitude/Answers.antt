use Rattle.std.proofs.Common.{◌≡◌, inl, ◌*◌, arith}
use Rattle.acas_witness_search.specs.Surveys.{search_of}
use Rattle.acas_witness_plans.proofs.Lattices.{end_time}
use Rattle.acas_witness_plans.proofs.Overs.{high_over}
use Rattle.acas_witness_search.proofs.Steps.{falling_altitude64}
use Rattle.acas_witness_search.proofs.survey.Survey.at_altitude.Goals as goal

pub returns-clause-point : goal.returns-clause-point
returns-clause-point c =
    let s = c.args.self.now in
    let n : c.args.number * 1 ≡ c.args.number = omega arith in
    let way = falling_altitude64 s.area.h.greatest s.area.h.least c.falling_place.result c.args.number s.area.fits.altitude.greatest s.area.fits.altitude.least s.area.h.ordered c.falling_place.ensures in
    record {
      time = high_over (search_of s) s.high_end.least;
      altitude = rw n way.0;
      own = c.low_plan.ensures.point.own;
      intruder = c.low_plan.ensures.point.intruder;
      aim = c.low_plan.ensures.point.aim;
      pull = c.low_plan.ensures.point.pull;
      hold = c.low_plan.ensures.point.hold;
    }

pub returns-clause-flown : goal.returns-clause-flown
returns-clause-flown c =
    let l = c.low_plan.ensures.flown.limits in
    let w = c.low_plan.ensures.whole in
    let s = c.args.self.now in
    record {
      limits = record { curve = record { start = l.curve.start; aim = l.curve.aim; pull = l.curve.pull; time = end_time c.args.self.now.high c.args.self.now.high_end; fine = inl (w.own, w.aim, w.pull) }; hold = l.hold; hold_fine = inl w.hold };
      intruder = c.low_plan.ensures.flown.intruder;
      altitude = (falling_altitude64 s.area.h.greatest s.area.h.least c.falling_place.result c.args.number s.area.fits.altitude.greatest s.area.fits.altitude.least s.area.h.ordered c.falling_place.ensures).1;
    }
