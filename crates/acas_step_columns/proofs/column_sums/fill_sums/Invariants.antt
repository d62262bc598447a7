use Rattle.acas_step_narrow.specs.ColumnBlends.{AreColumnSums}
use Rattle.acas_step_columns.proofs.column_sums.fill_sums.Given as goal

abbrev pub invariant-loop-sigma : goal.invariant-loop-sigma
invariant-loop-sigma l = AreColumnSums l.over.model.now l.over.below.now l.over.reach.size l.column l.advisory l.sigma l.uppers l.lowers
