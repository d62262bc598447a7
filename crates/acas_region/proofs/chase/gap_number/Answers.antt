use Rattle.std.proofs.Common.{rules}
use Rattle.acas_region.proofs.chase.gap_number.Goals as goal

pub line-altitude-requires : goal.line-altitude-requires
line-altitude-requires c = search rules

pub less-requires : goal.less-requires
less-requires c = search rules

pub returns : goal.returns
returns c = search rules
