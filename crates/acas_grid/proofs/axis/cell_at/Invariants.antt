use Rattle.std.proofs.Common.{◌+◌, ◌-◌, ◌<◌, ◌≤ℤ◌, length}
use Rattle.acas_spec.specs.Axis.{place_value}
use Rattle.acas_grid.proofs.axis.cell_at.Given as goal

abbrev pub invariant-loop-place : goal.invariant-loop-place
invariant-loop-place l = (l.place + 1 < length l.values) × (place_value l.values l.place ≤ℤ l.x)

abbrev pub decreases-loop-place : goal.decreases-loop-place
decreases-loop-place l = length l.values - l.place
