use Rattle.acas_grid.specs.States.{vertex_at}
use Rattle.acas_means.specs.Layer.{AreValuesOf}
use Rattle.acas_plain.proofs.StateChecks.{allows_state, below_of_values, reports_state}
use Rattle.acas_plain.proofs.check.check_entry.Goals as goal

pub returns-clause-value : goal.returns-clause-value
returns-clause-value c =
    let m = c.args.model.now in
    let means = c.means_below-means in
    reports_state m c.args.n c.args.entry.now (λ t k. AreValuesOf m t k c.args.below.now) c.check_at_vertex.result c.args.state c.parts-present.result.0 c.parts-present.result.1 c.parts-present.ensures.present c.parts-present.ensures.vertex
    (λ t entry layer. c.check_at_vertex.ensures.value t entry (below_of_values m t c.args.n (vertex_at m.grid c.parts-present.result.1) c.args.below.now means.result means.ensures layer))

pub returns-clause-allowed : goal.returns-clause-allowed
returns-clause-allowed c =
    allows_state c.args.model.now c.args.n c.args.entry.now.advice c.check_at_vertex.result c.args.state c.parts-present.result.0 c.parts-present.ensures.present c.check_at_vertex.ensures.allowed
