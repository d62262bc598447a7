use Rattle.std.proofs.Common.{pos, refl, arith}
use Rattle.std.specs.Int.{◌∣◌}
use Rattle.std.proofs.lemmas.Int.{ints}
use Rattle.std.proofs.lemmas.Nat.Gcd.{le_of_dvd}
use Rattle.acas_flight_examples.specs.Numbers.{over}
use Rattle.acas_cell_examples.proofs.Halves.{in_contact, shown}
use Rattle.acas_cell_examples.proofs.rulings.danger_is_shown_over_two_or_not.Goals as goal

pub returns-clause-shown : goal.returns-clause-shown
returns-clause-shown c = shown

pub returns-clause-too_high : goal.returns-clause-too_high
returns-clause-too_high c s = omega (arith, ints, s.altitude, s.contact.some, s.contact.inside.altitude.1)

pub returns-clause-flight : goal.returns-clause-flight
returns-clause-flight c = in_contact

pub returns-clause-flight_too_high : goal.returns-clause-flight_too_high
returns-clause-flight_too_high c s = omega (arith, ints, s.altitude_over, s.contact.some, s.contact.altitude.1)

pub returns-clause-flight_too_late : goal.returns-clause-flight_too_late
returns-clause-flight_too_late c s = omega (arith, ints, s.time_over, s.contact.some, s.contact.time.0)

pub returns-clause-flight_not_lowest_terms : goal.returns-clause-flight_not_lowest_terms
returns-clause-flight_not_lowest_terms c s =
    let reduced = s.reduced 0 (over (pos 1) 1) (omega arith) in
    let even : 2 ∣ 6 = ∣ (3, refl) ∣₁ in
    let twice : 2 ∣ 4 = ∣ (2, refl) ∣₁ in
    omega (arith, le_of_dvd {m = 2} {n = 1} (omega arith) (reduced.lowest.2 2 even twice))
