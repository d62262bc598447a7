use Rattle.acas_process.proofs.ModelLaws.{cost_is_own}
use Rattle.acas_process.proofs.laws.choices_have_their_cost.Goals as goal

pub returns : goal.returns
returns c = cost_is_own
