use Rattle.acas_cells.proofs.Members.{one_more, none_but_first}
use Rattle.acas_cells.proofs.set.AdviceSet.with.Goals as goal

pub returns-clause-more : goal.returns-clause-more
returns-clause-more c = λ a. one_more c.args.self.bits c.args.advice a c.requires

pub returns-clause-no_advisory : goal.returns-clause-no_advisory
returns-clause-no_advisory c = none_but_first c.args.self.bits c.args.advice c.requires
