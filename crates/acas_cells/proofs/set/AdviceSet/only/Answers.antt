use Rattle.acas_cells.proofs.Members.{one_alone}
use Rattle.acas_cells.proofs.set.AdviceSet.only.Goals as goal

pub returns : goal.returns
returns c = λ a. one_alone c.args.self.bits c.args.advice a c.requires
