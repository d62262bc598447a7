use Rattle.std.proofs.Common.{ap, ◌∙◌}
use Rattle.acas_grid.specs.States.{vertex_at}
use Rattle.acas_grid.proofs.StateNumbers.{IsVertex-vertex_at}
use Rattle.acas_means.specs.Means.{AreMeansOf}
use Rattle.acas_bounds.specs.Means.{AreOfLayer, answer_of, formed_lower, formed_upper}
use Rattle.acas_bounds.specs.Sound.{bound_fault}
use Rattle.acas_bounds.proofs.Faults.{OfBelow-map, fault_by_means-is, means_by_means, ok_allowed, reports_fault}
use Rattle.acas_bounds.proofs.check.check_at.Goals as goal

pub returns-clause-value : goal.returns-clause-value
returns-clause-value c = λ t entry layer.
    let m = c.args.model.now in
    let x = vertex_at m.grid c.args.vertex in
    let high = formed_upper m c.args.means.now x in
    let low = formed_lower m c.args.means.now x in
    let inside = IsVertex-vertex_at m.grid c.args.vertex c.requires.vertex in
    let means = OfBelow-map (λ k. AreMeansOf m t k c.args.means.now) (λ k. AreOfLayer m t k x high low) c.args.n (λ k. means_by_means m t k x c.args.means.now inside) layer in
    reports_fault c.check.result (bound_fault m t c.args.n c.args.present x)
    (c.check.ensures ∙ ap answer_of (fault_by_means-is m t c.args.n c.args.present x c.args.entry.now high low c.grid.ensures.valid c.requires.present entry means))

pub returns-clause-allowed : goal.returns-clause-allowed
returns-clause-allowed c =
    let m = c.args.model.now in
    let x = vertex_at m.grid c.args.vertex in
    ok_allowed m (formed_upper m c.args.means.now x) (formed_lower m c.args.means.now x) c.args.n c.args.present x c.args.entry.now c.check.result c.check.ensures
