use Rattle.std.proofs.Common.{inl, inr, arith}
use Rattle.std.proofs.lemmas.Int.{ints}
use Rattle.acas_cell_examples.proofs.issue.layers_advise_or_not.Goals as goal

pub returns-clause-not_unadvised : goal.returns-clause-not_unadvised
returns-clause-not_unadvised c (inl left) = omega (arith, ints, left)
returns-clause-not_unadvised c (inr far) = omega (arith, far.2, far.1.least 2 (omega arith) (omega (arith, ints)))
