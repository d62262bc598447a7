use Rattle.std.proofs.Common.{◌+◌, ap, arith}
use Rattle.acas_spec.specs.Model.{GridData}
use Rattle.acas_grid.specs.States.{vertex_at}
use Rattle.acas_means.specs.Columns.{columns, pairs_at, vertex_in}
use Rattle.acas_risk.specs.Plans.{policy_of}
use Rattle.acas_risk.proofs.Layers.{leave_room, over_next}
use Rattle.acas_risk.proofs.layer.put_over.Goals as goal

pub put_column-requires-clause-means : goal.put_column-requires-clause-means
put_column-requires-clause-means g c =
    let m = c.args.model.now in
    λ i here. leave_room m c.args.below.now (vertex_at m.grid (vertex_in m.grid c.loop-column.column i)) (pairs_at c.fill_column.new.means i) c.grid.ensures.valid c.requires.below (c.fill_column.ensures.means.each i here) c.requires.small

pub loop-column-preserved : goal.loop-column-preserved
loop-column-preserved g c =
    let m = c.args.model.now in
    record {
      count = c.put_column.ensures.count;
      over = over_next m c.args.step.now.costs.now (policy_of m c.args.step.now.plan.now) (c.args.step.now.n + 1) c.args.below.now c.loop-column.column c.fill_column.new.means c.loop-column.above c.put_column.new.above c.fill_column.ensures.means c.loop-column.invariant.over
          c.put_column.ensures.written c.put_column.ensures.others;
    }

pub returns-clause-over : goal.returns-clause-over
returns-clause-over g c = record {
  each = λ s inside before. c.loop-column.invariant.over.each s inside
      (omega (arith, before, c.loop-column-test.false, c.column_count-column-end.ensures, ap (λ (h : GridData). columns h) c.grid.ensures.value));
}
