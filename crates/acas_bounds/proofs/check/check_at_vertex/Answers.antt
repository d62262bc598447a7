use Rattle.std.proofs.Common.{ap, ◌∙◌}
use Rattle.acas_grid.specs.States.{vertex_at}
use Rattle.acas_means.specs.Layer.{value_at}
use Rattle.acas_means.specs.declared.layer.Side.TheVariants.{Lower, Upper}
use Rattle.acas_bounds.specs.Means.{answer_of}
use Rattle.acas_bounds.specs.Sound.{bound_fault}
use Rattle.acas_bounds.proofs.Faults.{fault_by_means-is, ok_allowed, reports_fault}
use Rattle.acas_bounds.proofs.check.check_at_vertex.Goals as goal

pub returns-clause-value : goal.returns-clause-value
returns-clause-value c = λ t entry layer.
    let m = c.args.model.now in
    let x = vertex_at m.grid c.args.vertex in
    reports_fault c.check.result (bound_fault m t c.args.n c.args.present x)
    (c.check.ensures ∙ ap answer_of (fault_by_means-is m t c.args.n c.args.present x c.args.entry.now (value_at Upper c.args.means.now) (value_at Lower c.args.means.now) c.grid.ensures.valid c.requires.present entry layer))

pub returns-clause-allowed : goal.returns-clause-allowed
returns-clause-allowed c =
    let m = c.args.model.now in
    let x = vertex_at m.grid c.args.vertex in
    ok_allowed m (value_at Upper c.args.means.now) (value_at Lower c.args.means.now) c.args.n c.args.present x c.args.entry.now c.check.result c.check.ensures
