use Rattle.std.proofs.Common.{◌-◌, ◌≤◌, get_or}
use Rattle.acas_step_stencils.proofs.heights.height_place.Given as goal

abbrev pub invariant-loop-place : goal.invariant-loop-place
invariant-loop-place l = l.place ≤ l.last

abbrev pub decreases-loop-place : goal.decreases-loop-place
decreases-loop-place l = l.place

abbrev pub invariant-loop-place-2 : goal.invariant-loop-place-2
invariant-loop-place-2 l = record {
  inside : l.place ≤ l.last;
  lower : get_or l.heights l.place 0 ≤ l.height;
}

abbrev pub decreases-loop-place-2 : goal.decreases-loop-place-2
decreases-loop-place-2 l = l.last - l.place
