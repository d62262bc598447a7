use Rattle.acas_means.specs.Means.{AreMeansOf}
use Rattle.acas_plain.proofs.StateChecks.{allows_state, reports_state}
use Rattle.acas_plain.proofs.check.check_by_means.Goals as goal

pub returns-clause-value : goal.returns-clause-value
returns-clause-value c =
    let m = c.args.model.now in
    reports_state m c.args.n c.args.entry.now (λ t k. AreMeansOf m t k c.args.means.now) c.check_at.result c.args.state c.parts-present.result.0 c.parts-present.result.1 c.parts-present.ensures.present c.parts-present.ensures.vertex c.check_at.ensures.value

pub returns-clause-allowed : goal.returns-clause-allowed
returns-clause-allowed c =
    allows_state c.args.model.now c.args.n c.args.entry.now.advice c.check_at.result c.args.state c.parts-present.result.0 c.parts-present.ensures.present c.check_at.ensures.allowed
