use Rattle.std.proofs.Common.{◌+◌}
use Rattle.acas_means.specs.Layer.{value_at}
use Rattle.acas_step.proofs.SumSteps.{IsSumSoFar}
use Rattle.acas_step.proofs.weighted.weighted_sum.Given as goal

abbrev pub invariant-loop-corner : goal.invariant-loop-corner
invariant-loop-corner l = IsSumSoFar l.corners l.corner-index (λ n. value_at l.side l.below (l.first + n)) l.sum
