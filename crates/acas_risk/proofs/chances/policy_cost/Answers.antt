use Rattle.acas_policies.specs.Allowed.{SaysAdvisories}
use Rattle.acas_risk.specs.Plans.{advised}
use Rattle.acas_risk.proofs.Bounds.{bounds_costs, if_ok}
use Rattle.acas_risk.proofs.chances.policy_cost.Goals as goal

pub returns-clause-bounds : goal.returns-clause-bounds
returns-clause-bounds g c =
    let m = c.args.model.now in
    let policy = advised m c.args.advices.now in
    if_ok c.plan_values.result _ _ (SaysAdvisories m policy) (λ pairs says are. bounds_costs m policy pairs.items c.grid.ensures.valid says are) c.plan_values.ensures.known c.plan_values.ensures.pairs
