use Rattle.std.proofs.Common.{◌<◌, take}
use Rattle.acas_spec.specs.Model.{choices_at}
use Rattle.acas_sweep.specs.Best.{IsLeast}
use Rattle.acas_sweep.proofs.two.least_of_two.Given as goal

abbrev pub invariant-loop-place : goal.invariant-loop-place
invariant-loop-place l = record {
  some : 0 < l.place;
  least : IsLeast l.model l.vertex_means l.present (take l.place (choices_at l.model l.present)) l.least;
  next : IsLeast l.model l.next_means l.present (take l.place (choices_at l.model l.present)) l.next_least;
}
