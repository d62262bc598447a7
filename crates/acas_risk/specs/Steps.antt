-- One second of a plan, before which a layer is written.
use Rattle.std.specs.Prelude.{◌<◌}
use Rattle.acas_spec.specs.Model.{ModelData}
use Rattle.acas_risk.specs.Layers.{AreSmall}
use Rattle.acas_risk.specs.Plans.{FitsModel}
use Rattle.acas_risk.specs.declared.layer.Step.{Step}

-- the plan fits the model, the second is within the horizon, and no cost of a second is too large
pub record IsStepOf (m : ModelData) (step : Step) : Type 0 where
  pub plan : FitsModel m step.plan.now
  pub n : step.n < m.grid.horizon
  pub costs : AreSmall m.grid step.costs.now
