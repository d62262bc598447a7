use Rattle.std.proofs.Common.{◌≡◌, ◌-◌, ◌<◌, ◌≤◌, true, false}
use Rattle.acas_witness_plans.specs.Plans.{CanBeFlown}
use Rattle.acas_witness_search.specs.Surveys.{below_in, IsPointOf, pass_of}
use Rattle.acas_witness_search.proofs.first.first_from.Given as goal

abbrev pub invariant-loop-high : goal.invariant-loop-high
invariant-loop-high l = (l.low < l.high) × (l.high ≤ l.pass.last)
    × (below_in l.pass.survey l.pass.quantity l.low ≡ true) × (below_in l.pass.survey l.pass.quantity l.high ≡ false)
    × IsPointOf l.pass.survey (pass_of l.pass.quantity) l.high l.found × CanBeFlown l.found

abbrev pub decreases-loop-high : goal.decreases-loop-high
decreases-loop-high l = l.high - l.low
