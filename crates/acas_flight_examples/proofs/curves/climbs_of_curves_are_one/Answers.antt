use Rattle.std.proofs.Common.{pos, refl, arith}
use Rattle.std.proofs.lemmas.Int.{ints}
use Rattle.acas_flight.specs.Curves.{approach}
use Rattle.acas_flight_examples.proofs.curves.climbs_of_curves_are_one.Goals as goal

-- each over the denominator 1

pub returns-clause-lowest : goal.returns-clause-lowest
unfolding approach
returns-clause-lowest c y l = omega (arith, ints, l.over 1 (pos 500) 7 (omega arith) refl refl)

pub returns-clause-highest : goal.returns-clause-highest
unfolding approach
returns-clause-highest c y h = omega (arith, ints, h.over 1 (pos 500) 7 (omega arith) refl refl)

pub returns-clause-approach : goal.returns-clause-approach
unfolding approach
returns-clause-approach c y a = omega (arith, ints, a.over 1 (pos 500) (pos 1000) 100 7 (omega arith) refl refl refl refl)

pub returns-clause-held : goal.returns-clause-held
unfolding approach
returns-clause-held c y h = omega (arith, ints, h.over 1 (pos 500) (pos 1000) 100 2 7 (omega arith) refl refl refl refl refl)
