use Rattle.std.proofs.Common.{◌≡◌, ◌<◌, length, drop}
use Rattle.acas_spec.specs.Model.{choices_at}
use Rattle.acas_process.specs.Compiled.{least}
use Rattle.acas_grid.specs.States.{vertex_at}
use Rattle.acas_means.specs.Choices.{value_by_mean}
use Rattle.acas_bounds.specs.Means.{lower_below}
use Rattle.acas_bounds.proofs.choices.least_lower.Given as goal

abbrev pub invariant-loop-place : goal.invariant-loop-place
invariant-loop-place l = record {
  inside : l.place < length (choices_at l.model l.present);
  least : l.least ≡ least (value_by_mean l.model l.present (lower_below l.model l.below (vertex_at l.model.grid l.vertex))) (drop l.place (choices_at l.model l.present));
}

abbrev pub decreases-loop-place : goal.decreases-loop-place
decreases-loop-place l = l.place
