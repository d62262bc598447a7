use Rattle.std.proofs.Common.{◌<◌}
use Rattle.acas_bounds.specs.Leasts.{AreLeastsFrom}
use Rattle.acas_bounds.proofs.leasts.fill_leasts.Given as goal

abbrev pub invariant-loop-place : goal.invariant-loop-place
invariant-loop-place l = record {
  inside : l.place < l.plane.count;
  leasts : AreLeastsFrom l.model l.means l.plane.present l.place l.leasts;
}

abbrev pub decreases-loop-place : goal.decreases-loop-place
decreases-loop-place l = l.place
