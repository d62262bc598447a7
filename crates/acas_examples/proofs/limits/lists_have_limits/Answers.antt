use Rattle.std.proofs.Common.{refl, arith}
use Rattle.std.proofs.lemmas.Int.{ints}
use Rattle.acas_examples.proofs.limits.lists_have_limits.Goals as goal

pub returns-clause-first : goal.returns-clause-first
returns-clause-first c h = omega (arith, ints, (h.bounded 0 (omega arith)).low)

pub returns-clause-last : goal.returns-clause-last
returns-clause-last c h = omega (arith, ints, (h.bounded 2 (omega arith)).high)

pub returns-clause-neighbours : goal.returns-clause-neighbours
returns-clause-neighbours c h = h.apart 1 2 (omega arith) (omega arith) refl
