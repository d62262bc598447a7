use Rattle.std.proofs.Common.{◌-◌}
use Rattle.acas_areas.specs.Value.{is_below}
use Rattle.acas_areas.proofs.Halvings.{Bracket}
use Rattle.acas_areas.proofs.halving.halve.Given as goal

abbrev pub invariant-loop-high : goal.invariant-loop-high
invariant-loop-high g l = Bracket (λ i. is_below (g.P.Pass.half l.pass) (g.P.Pass.value_at l.pass i)) l.last l.low l.high

abbrev pub decreases-loop-high : goal.decreases-loop-high
decreases-loop-high g l = l.high - l.low
