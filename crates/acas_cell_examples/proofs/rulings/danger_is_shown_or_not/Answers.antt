use Rattle.std.proofs.Common.{◌*◌, pos, ◌-ℤ◌, refl, arith}
use Rattle.std.specs.Int.{◌∣◌}
use Rattle.std.proofs.lemmas.Int.{ints, int_max_is}
use Rattle.std.proofs.lemmas.Nat.Gcd.{le_of_dvd}
use Rattle.acas_flight_examples.specs.Numbers.{over}
use Rattle.acas_cell_examples.proofs.Shown.{lasts_two, shown, shown_over_two, shown_sooner}
use Rattle.acas_cell_examples.proofs.rulings.danger_is_shown_or_not.Goals as goal

pub returns-clause-shown : goal.returns-clause-shown
returns-clause-shown c = shown

pub returns-clause-faster : goal.returns-clause-faster
returns-clause-faster c = shown_sooner

pub returns-clause-over_two : goal.returns-clause-over_two
returns-clause-over_two c = shown_over_two

pub returns-clause-slow : goal.returns-clause-slow
returns-clause-slow c s = omega (arith, ints, s.closing, s.contact.some, s.contact.inside.away.speed.0)

-- over q it is within the radius from the start, so not a second away
pub returns-clause-behind : goal.returns-clause-behind
returns-clause-behind c s = omega (arith, ints, s.range, s.closing, s.contact.some, s.contact.inside.away.not_before, int_max_is (pos 0) (s.state.range -ℤ pos (500 * s.q)))

pub returns-clause-not_lowest_terms : goal.returns-clause-not_lowest_terms
returns-clause-not_lowest_terms c s =
    let reduced = s.reduced 0 (over (pos 1) 1) (omega arith) in
    let two : 2 ∣ 2 = ∣ (1, refl) ∣₁ in
    let even : 2 ∣ 2000 = ∣ (1000, refl) ∣₁ in
    omega (arith, le_of_dvd {m = 2} {n = 1} (omega arith) (reduced.lowest.2 2 even two))

pub returns-clause-shorter : goal.returns-clause-shorter
returns-clause-shorter c s = omega (arith, ints, s.time, s.contact.some, lasts_two s.q s.response (pos 1000) (pos 250) (pos 1) 1 s.flown)
