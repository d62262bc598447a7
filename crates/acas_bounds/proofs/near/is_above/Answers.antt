use Rattle.std.proofs.Common.{rules}
use Rattle.acas_bounds.proofs.near.is_above.Goals as goal

pub returns : goal.returns
returns c = search rules
