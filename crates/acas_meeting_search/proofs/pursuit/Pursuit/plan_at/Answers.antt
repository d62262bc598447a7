use Rattle.acas_hunt_lemmas.proofs.Joins.{intruder-start}
use Rattle.acas_meeting_search.specs.View.{hunt_of}
use Rattle.acas_meeting_search.proofs.Pursuits.{hunt_fine}
use Rattle.acas_meeting_search.proofs.pursuit.Pursuit.plan_at.Goals as goal

pub returns-in-Goal-clause-point : goal.returns-in-Goal-clause-point
returns-in-Goal-clause-point c =
    let p = c.args.self.now in
    rw c.in-Goal.is (rw (intruder-start (hunt_of p) (hunt_fine p)) at c.plan_at-in-Goal.ensures.point)
