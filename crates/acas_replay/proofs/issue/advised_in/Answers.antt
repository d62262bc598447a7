use Rattle.std.proofs.Common.{rules}
use Rattle.acas_replay.proofs.issue.advised_in.Goals as goal

pub overflow_sub-radius : goal.overflow_sub-radius
overflow_sub-radius c = search rules

pub returns-then-state-radius : goal.returns-then-state-radius
returns-then-state-radius c = search rules

pub layer_of-layer-requires : goal.layer_of-layer-requires
layer_of-layer-requires c = c.requires

pub returns-then-from-layer : goal.returns-then-from-layer
returns-then-from-layer c = search rules

pub overflow_cast-result : goal.overflow_cast-result
overflow_cast-result c = search rules

pub returns : goal.returns
returns c = search rules
