use Rattle.std.proofs.Common.{◌-◌, ◌≤◌}
use Rattle.acas_witness_search.specs.declared.guess.TheConstants.{MOST_STEPS}
use Rattle.acas_witness_search.proofs.guess.least_way.Given as goal

abbrev pub invariant-loop-low : goal.invariant-loop-low
invariant-loop-low l = (l.low ≤ l.high) × (l.high ≤ MOST_STEPS)

abbrev pub decreases-loop-low : goal.decreases-loop-low
decreases-loop-low l = l.high - l.low
