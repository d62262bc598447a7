use Rattle.std.proofs.Common.{◌*◌, neg_ℤ, pos, unsigned_abs}
use Rattle.acas_witness_search.specs.Surveys.{search_of}
use Rattle.acas_witness_plans.proofs.Overs.{high_over, whole_over}
use Rattle.acas_meeting_search.specs.Courses.{unit_of}
use Rattle.acas_meeting_search.proofs.Pursuits.{least_rate_is}
use Rattle.acas_meeting_search.proofs.pursuit.Pursuit.from_rate.Goals as goal

pub returns-clause-point : goal.returns-clause-point
returns-clause-point c =
    let p = c.args.self.now in
    record {
      time = rw c.downward.ensures.time (high_over (search_of p.survey) p.survey.high_end.least);
      intruder = c.requires.plan.intruder;
      goal = whole_over (neg_ℤ (pos (unsigned_abs p.may.rate))) (neg_ℤ p.may.rate) (unit_of p * unit_of p) c.downward.result.goal c.downward.ensures.goal (least_rate_is p);
    }
