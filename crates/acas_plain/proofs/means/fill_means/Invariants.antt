use Rattle.std.proofs.Common.{ℕ, ◌<◌}
use Rattle.acas_grid.specs.States.{state_present, state_vertex}
use Rattle.acas_means.specs.Layer.{pair_at}
use Rattle.acas_means.specs.Means.{AreMeansAt}
use Rattle.acas_plain.proofs.means.fill_means.Given as goal

abbrev pub invariant-loop-state : goal.invariant-loop-state
invariant-loop-state l = (s : ℕ) → s < l.state → AreMeansAt l.model l.below (state_vertex l.model.grid s) (state_present l.model.grid s) (pair_at l.means s)
