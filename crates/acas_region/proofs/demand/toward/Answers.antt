use Rattle.std.proofs.Common.{rules}
use Rattle.acas_region.proofs.demand.toward.Goals as goal

pub overflow_cast-pull : goal.overflow_cast-pull
overflow_cast-pull c = search rules

pub overflow_cast-hold : goal.overflow_cast-hold
overflow_cast-hold c = search rules

pub held-requires : goal.held-requires
held-requires c = search rules

pub returns-clause-climb : goal.returns-clause-climb
returns-clause-climb c = search rules
