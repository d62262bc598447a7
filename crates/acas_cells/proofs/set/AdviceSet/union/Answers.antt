use Rattle.acas_cells.proofs.Members.{either_bit, none_above_first}
use Rattle.acas_cells.proofs.set.AdviceSet.union.Goals as goal

pub returns-clause-more : goal.returns-clause-more
returns-clause-more c = λ a. either_bit c.args.self.bits c.args.other.bits a

pub returns-clause-no_advisory : goal.returns-clause-no_advisory
returns-clause-no_advisory c = none_above_first c.args.self.bits c.args.other.bits
