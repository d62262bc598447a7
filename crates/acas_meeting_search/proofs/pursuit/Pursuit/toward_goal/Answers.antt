use Rattle.std.proofs.Common.{◌*◌, refl}
use Rattle.acas_witness_search.specs.Surveys.{search_of}
use Rattle.acas_witness_plans.proofs.Overs.{high_over, whole_over}
use Rattle.acas_meeting_search.specs.Courses.{unit_of}
use Rattle.acas_meeting_search.proofs.pursuit.Pursuit.toward_goal.Goals as goal

pub returns-clause-point : goal.returns-clause-point
returns-clause-point c =
    let p = c.args.self.now in
    record {
      time = rw c.upward.ensures.time (high_over (search_of p.survey) p.survey.high_end.least);
      intruder = whole_over p.survey.area.v1.greatest p.survey.area.v1.greatest (unit_of p * unit_of p) c.upward.result.intruder c.upward.ensures.intruder refl;
      goal = c.goal_at.ensures.over;
    }
