use Rattle.std.proofs.Common.{◌-◌, ◌≤◌, ◌≤ℤ◌}
use Rattle.acas_spec.specs.Axis.{place_value}
use Rattle.acas_step.proofs.cell.place_near.Given as goal

abbrev pub invariant-loop-place : goal.invariant-loop-place
invariant-loop-place l = l.place ≤ l.last

abbrev pub decreases-loop-place : goal.decreases-loop-place
decreases-loop-place l = l.place

abbrev pub invariant-loop-place-2 : goal.invariant-loop-place-2
invariant-loop-place-2 l = record {
  inside : l.place ≤ l.last;
  lower : place_value l.axis l.place ≤ℤ l.x;
}

abbrev pub decreases-loop-place-2 : goal.decreases-loop-place-2
decreases-loop-place-2 l = l.last - l.place
