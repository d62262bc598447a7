use Rattle.std.proofs.Common.{◌≡◌, ◌+◌, length}
use Rattle.acas_spec.specs.Model.{states}
use Rattle.acas_risk.specs.Layers.{AreOver}
use Rattle.acas_risk.specs.Plans.{policy_of}
use Rattle.acas_risk.proofs.layer.put_over.Given as goal

abbrev pub invariant-loop-column : goal.invariant-loop-column
invariant-loop-column g l = record {
  count : length l.above ≡ states l.model.grid;
  over : AreOver l.model l.step.costs.now (policy_of l.model l.step.plan.now) (l.step.n + 1) l.below l.column l.above;
}
