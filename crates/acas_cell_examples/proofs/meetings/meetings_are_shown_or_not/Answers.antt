use Rattle.std.proofs.Common.{pos, refl, arith}
use Rattle.std.specs.Int.{◌∣◌}
use Rattle.std.proofs.lemmas.Int.{ints}
use Rattle.std.proofs.lemmas.Nat.Gcd.{le_of_dvd}
use Rattle.acas_flight_examples.specs.Numbers.{over}
use Rattle.acas_cell_examples.proofs.ShownMeeting.{shown}
use Rattle.acas_cell_examples.proofs.meetings.meetings_are_shown_or_not.Goals as goal

pub returns-clause-shown : goal.returns-clause-shown
returns-clause-shown c = shown

pub returns-clause-slow : goal.returns-clause-slow
returns-clause-slow c s = omega (arith, ints, s.closing, s.meeting.some, s.meeting.inside.closing.0)

pub returns-clause-not_lowest_terms : goal.returns-clause-not_lowest_terms
returns-clause-not_lowest_terms c s =
    let reduced = s.reduced 0 (over (pos 1) 1) (omega arith) in
    let two : 2 ∣ 2 = ∣ (1, refl) ∣₁ in
    let even : 2 ∣ 2000 = ∣ (1000, refl) ∣₁ in
    omega (arith, le_of_dvd {m = 2} {n = 1} (omega arith) (reduced.lowest.2 2 even two))
