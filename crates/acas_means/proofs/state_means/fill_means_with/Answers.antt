use Rattle.std.proofs.Common.{ap, arith}
use Rattle.acas_spec.specs.Model.{GridData}
use Rattle.acas_means.specs.Columns.{columns}
use Rattle.acas_means.proofs.ColumnPlaces.{column_below, column_written}
use Rattle.acas_means.proofs.TableMeans.{means_within, means_written}
use Rattle.acas_means.proofs.state_means.fill_means_with.Goals as goal

pub loop-column-preserved : goal.loop-column-preserved
loop-column-preserved g c = record {
  count = c.put_column.ensures.count;
  means = column_written c.args.model.now c.args.below.now c.loop-column.column c.fill_column.new.means c.loop-column.means c.put_column.new.means c.loop-column.invariant.means c.fill_column.ensures.means
      c.put_column.ensures.written c.put_column.ensures.others;
}

pub returns-clause-means : goal.returns-clause-means
returns-clause-means g c =
    let g = c.args.model.now.grid in
    means_written c.args.model.now c.args.below.now c.loop-column.means
    (λ s here. c.loop-column.invariant.means s here
    (omega (arith, column_below g s here, c.loop-column-test.false, c.column_count-column-end.ensures, ap (λ (g : GridData). columns g) c.grid.ensures.value)))

pub returns-clause-size : goal.returns-clause-size
returns-clause-size g c =
    let g = c.args.model.now.grid in
    means_within c.args.model.now c.args.below.now c.loop-column.means c.reach_of-reach.result c.grid.ensures.valid c.requires.below c.loop-column.invariant.count c.reach_of-reach.ensures
    (λ s here. c.loop-column.invariant.means s here
    (omega (arith, column_below g s here, c.loop-column-test.false, c.column_count-column-end.ensures, ap (λ (g : GridData). columns g) c.grid.ensures.value)))
