use Rattle.acas_policies.specs.Allowed.{SaysAdvisories}
use Rattle.acas_risk.specs.Plans.{policy_of}
use Rattle.acas_risk.proofs.Bounds.{bounds_chances, if_ok}
use Rattle.acas_risk.proofs.chances.chance.Goals as goal

pub returns-clause-bounds : goal.returns-clause-bounds
returns-clause-bounds g c =
    let m = c.args.model.now in
    let policy = policy_of m c.args.plan in
    if_ok c.plan_values.result _ _ (SaysAdvisories m policy) (λ pairs says are. bounds_chances m policy pairs.items c.grid.ensures.valid says are) c.plan_values.ensures.known c.plan_values.ensures.pairs
