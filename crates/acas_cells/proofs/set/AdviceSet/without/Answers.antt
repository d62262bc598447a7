use Rattle.std.proofs.Common.{arith}
use Rattle.acas_cells.proofs.Members.{one_less}
use Rattle.acas_cells.proofs.set.AdviceSet.without.Goals as goal

pub returns : goal.returns
returns c = λ a. one_less c.args.self.bits c.args.advice a (omega arith) c.requires
