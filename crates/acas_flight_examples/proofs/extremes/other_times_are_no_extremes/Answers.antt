use Rattle.std.proofs.Common.{refl, arith}
use Rattle.std.proofs.lemmas.Int.{ints}
use Rattle.std.specs.Int.{◌∣◌}
use Rattle.std.proofs.lemmas.Nat.Gcd.{le_of_dvd}
use Rattle.acas_flight.specs.Curves.{approach}
use Rattle.acas_flight_examples.proofs.extremes.other_times_are_no_extremes.Goals as goal

pub returns-clause-not_the_last : goal.returns-clause-not_the_last
unfolding approach
returns-clause-not_the_last c e = omega (arith, ints, e.first.least 1 7 0 (omega arith) refl (omega (arith, ints), omega (arith, ints)))

pub returns-clause-not_the_first : goal.returns-clause-not_the_first
unfolding approach
returns-clause-not_the_first c e = omega (arith, ints, e.first.least 1 0 7 (omega arith) refl (omega (arith, ints), omega (arith, ints)))

pub returns-clause-low_later : goal.returns-clause-low_later
unfolding approach
returns-clause-low_later c e = omega (arith, ints, e.first.earliest 1 2 1 (omega arith) refl (omega (arith, ints), omega (arith, ints)) (omega arith))

pub returns-clause-high_later : goal.returns-clause-high_later
unfolding approach
returns-clause-high_later c e = omega (arith, ints, e.first.earliest 1 2 1 (omega arith) refl (omega (arith, ints), omega (arith, ints)) (omega arith))

pub returns-clause-not_lowest_terms : goal.returns-clause-not_lowest_terms
returns-clause-not_lowest_terms c e =
    let two : 2 ∣ 2 = ∣ (1, refl) ∣₁ in
    omega (arith, le_of_dvd {m = 2} {n = 1} (omega arith) (e.reduced.lowest.2 2 two two))
