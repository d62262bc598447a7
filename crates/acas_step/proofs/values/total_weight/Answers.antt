use Rattle.acas_process.proofs.ModelLaws.{total_weight_pos}
use Rattle.acas_step.proofs.values.total_weight.Goals as goal

pub returns-clause-some : goal.returns-clause-some
returns-clause-some c = total_weight_pos c.args.model.now c.grid.ensures.valid
