use Rattle.std.proofs.lemmas.Grind.{common_steps}
use Rattle.std.proofs.Common.{arith}
use Rattle.std.proofs.lemmas.Int.{ints}
use Rattle.acas_witness_search.specs.Surveys.{search_of}
use Rattle.acas_witness_plans.proofs.Overs.{high_over}
use Rattle.acas_witness_search.proofs.survey.Survey.after_altitude.Goals as goal

pub returns-clause-point : goal.returns-clause-point
returns-clause-point c =
    let s = c.args.self.now in
    let l = c.low_plan.ensures.point in
    record {
      time = high_over (search_of s) s.high_end.least;
      altitude = omega (arith, ints, s.area.fits.altitude.least);
      own = l.own;
      intruder = l.intruder;
      aim = l.aim;
      pull = l.pull;
      hold = l.hold;
    }

pub returns-clause-flown : goal.returns-clause-flown
returns-clause-flown c = grind (arith, common_steps)
