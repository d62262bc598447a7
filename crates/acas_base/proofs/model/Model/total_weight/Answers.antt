use Rattle.acas_spec.specs.Limits.{IsSigma}
use Rattle.acas_spec.proofs.Places.{all_from}
use Rattle.acas_base.specs.View.{no_sigma}
use Rattle.acas_base.proofs.model.Model.total_weight.Goals as goal

pub total_weight-requires-clause-weights : goal.total_weight-requires-clause-weights
total_weight-requires-clause-weights c = rw c.deref.ensures.value (all_from IsSigma c.self.inside.sigmas.items no_sigma c.self.invariant.sigmas)
