use Rattle.std.proofs.Common.{pos, [], ◌∷◌, arith}
use Rattle.std.proofs.lemmas.Int.{ints}
use Rattle.acas_spec.specs.Axis.{Rises}
use Rattle.acas_examples.proofs.WithinLimits.{rises_of}
use Rattle.acas_examples.proofs.cells.axes_rise.Goals as goal

pub returns-clause-rising : goal.returns-clause-rising
returns-clause-rising c = record { at_least = omega arith; at_most = omega arith; rising = rises_of (pos 0) (pos 1 ∷ []) (omega (arith, ints), tt) }

pub returns-clause-still : goal.returns-clause-still
unfolding Rises
returns-clause-still c a = omega (arith, ints, a.rising 0 (omega arith))

pub returns-clause-falling : goal.returns-clause-falling
unfolding Rises
returns-clause-falling c a = omega (arith, ints, a.rising 0 (omega arith))
