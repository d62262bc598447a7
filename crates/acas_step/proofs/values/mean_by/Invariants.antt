use Rattle.std.proofs.Common.{pos, ◌*ℤ◌}
use Rattle.acas_process.specs.Values.{interpolated}
use Rattle.acas_process.specs.Step.{moved, sigma_weight}
use Rattle.acas_grid.specs.States.{vertex_at}
use Rattle.acas_means.specs.Layer.{layer_values}
use Rattle.acas_step.proofs.SigmaSteps.{IsMeanSoFar}
use Rattle.acas_step.proofs.values.mean_by.Given as goal

abbrev pub invariant-loop-sigma : goal.invariant-loop-sigma
invariant-loop-sigma g l =
    IsMeanSoFar l.model.sigmas (λ q. pos (sigma_weight l.model q) *ℤ interpolated g.R.Rounding.round l.model (layer_values l.side l.model.grid l.below) l.advisory (moved l.model (vertex_at l.model.grid l.vertex) l.advisory q)) l.sigma l.sum
