use Rattle.std.proofs.Common.{◌≡◌, ◌+◌, length, ap, ◌∙◌, arith}
use Rattle.acas_spec.specs.Model.{GridData}
use Rattle.acas_means.specs.Columns.{vertex_in}
use Rattle.acas_risk.specs.Plans.{policy_of}
use Rattle.acas_risk.proofs.Written.{altitude-below, column_next, column_of_vertex}
use Rattle.acas_risk.proofs.layer.put_column.Goals as goal

pub loop-i-preserved : goal.loop-i-preserved
loop-i-preserved c =
    let m = c.args.model.now in
    let g = m.grid in
    let column = c.args.column in
    let i = c.loop-i.i in
    let inside = c.requires.column in
    let so_far = c.loop-i.invariant in
    let at : c.vertex_in_column-vertex.result ≡ vertex_in g column i = c.vertex_in_column-vertex.ensures.value ∙ ap (λ (g : GridData). vertex_in g column i) c.grid-grid.ensures.value in
    record {
      count = c.put_vertex.ensures.count;
      written = column_next g c.args.step.now.costs.now (policy_of m c.args.step.now.plan.now) (c.args.step.now.n + 1) column i c.vertex_in_column-vertex.result c.args.means.now c.loop-i.above c.put_vertex.new.above at inside so_far.written c.put_vertex.ensures.written c.put_vertex.ensures.others;
      others = λ s other. c.put_vertex.ensures.others s (λ same. other (column_of_vertex g s column i inside (same ∙ at))) ∙ so_far.others s other;
    }

pub returns-clause-written : goal.returns-clause-written
returns-clause-written c =
    let g = c.args.model.now.grid in
    λ s inside here. c.loop-i.invariant.written s
    (omega (arith, c.loop-i-test.false, c.len-i-end.ensures.value, ap (λ (h : GridData). length h.h) (c.grid.view_is ∙ c.grid-grid.ensures.value), altitude-below g s inside)) inside here
