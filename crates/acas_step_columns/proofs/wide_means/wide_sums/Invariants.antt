use Rattle.acas_grid.specs.States.{vertex_at}
use Rattle.acas_means.specs.Columns.{vertex_in}
use Rattle.acas_step_narrow.specs.WideSums.{as_raised}
use Rattle.acas_step_narrow.specs.Narrow.{AreRaisedSums}
use Rattle.acas_step_columns.proofs.wide_means.wide_sums.Given as goal

abbrev pub invariant-loop-sigma : goal.invariant-loop-sigma
invariant-loop-sigma l =
    AreRaisedSums l.over.model.now l.over.below.now l.over.reach.size (vertex_at l.over.model.now.grid (vertex_in l.over.model.now.grid l.column l.i)) l.advisory l.sigma (as_raised l.sums)
