use Rattle.acas_drill_model.proofs.WithinLimits.{few_entries, model_within}
use Rattle.acas_drill_model.proofs.laws.drilled_models_are_within_limits.Goals as goal

pub returns-clause-within : goal.returns-clause-within
returns-clause-within c = model_within

pub returns-clause-few : goal.returns-clause-few
returns-clause-few c = few_entries
