-- The flight in halves shows danger.
use Rattle.std.proofs.Common.{◌%◌, ◌≡◌, ℕ, [], ◌∷◌, pos, refl, arith, rules}
use Rattle.std.specs.List.{All}
use Rattle.std.proofs.lemmas.List.Elements.{All-from_recursion}
use Rattle.std.proofs.lemmas.Nat.Gcd.{IsGcd-from_mod, IsGcd-from_zero}
use Rattle.std.proofs.Math.Nat.{one-dvd}
use Rattle.acas_frac.specs.Fraction.{IsReduced}
use Rattle.acas_flight.specs.State.{IsInCell}
use Rattle.acas_flight.specs.Clear.{EndsInVerticalContact, area_of_cell}
use Rattle.acas_flight.specs.Contact.{EndsInContact}
use Rattle.acas_flight_examples.specs.Flown.{climbing}
use Rattle.acas_flight_examples.specs.Numbers.{over, segment, state, times}
use Rattle.acas_rulings.specs.Printed.{AreParts, a_part, flight_fractions, fractions_of, level, no_parts, segments_of}
use Rattle.acas_rulings.specs.Rulings.{ShowsDanger}
use Rattle.acas_rulings.specs.Witness.{IsFlightInContact}
use Rattle.acas_cell_examples.specs.Tabled.{stacked}
use Rattle.acas_cell_examples.specs.Witnesses.{seen_in_halves}

whole_is_reduced : (n : ℕ) → IsReduced (over (pos n) 1)
whole_is_reduced n = record { some = omega arith; lowest = (one-dvd n, one-dvd 1, λ k i j. j) }

odd_is_reduced : (n : ℕ) → n % 2 ≡ 1 → IsReduced (over (pos n) 2)
odd_is_reduced n odd = record { some = omega arith; lowest = IsGcd-from_mod n 2 1 (rw odd (IsGcd-from_mod 2 1 1 (IsGcd-from_zero 1 0 refl))) }

parts : AreParts 2 (segment 2 (pos 0) ∷ segment 1 (pos 200) ∷ []) (segments_of (seen_in_halves (pos 100)).flight)
parts = a_part (segment 2 (pos 0)) (level (over (pos 1) 1)) (segment 1 (pos 200) ∷ []) (record { duration = over (pos 1) 2; acceleration = over (pos 100) 1 } ∷ []) (record { duration = refl; acceleration = refl })
    (a_part (segment 1 (pos 200)) (record { duration = over (pos 1) 2; acceleration = over (pos 100) 1 }) [] [] (record { duration = refl; acceleration = refl }) no_parts)

flight_reduced : All IsReduced (flight_fractions (seen_in_halves (pos 100)).flight)
flight_reduced =
    All-from_recursion IsReduced (flight_fractions (seen_in_halves (pos 100)).flight)
    (odd_is_reduced 3 refl, (odd_is_reduced 1 refl, (odd_is_reduced 1 refl, (whole_is_reduced 1, (whole_is_reduced 0, (odd_is_reduced 1 refl, (whole_is_reduced 100, tt)))))))

all_reduced : All IsReduced (fractions_of (seen_in_halves (pos 100)))
all_reduced =
    All-from_recursion IsReduced (fractions_of (seen_in_halves (pos 100))) (
      odd_is_reduced 1501 refl,
      (odd_is_reduced 501 refl, (odd_is_reduced 3 refl, (odd_is_reduced 1 refl, (odd_is_reduced 1 refl, (whole_is_reduced 1, (whole_is_reduced 0, (odd_is_reduced 1 refl, (whole_is_reduced 100, tt)))))))),
    )

ends : EndsInContact stacked 1 (IsInCell stacked 1 0 0 0) 2 (state (pos 1501) (pos 501) (pos 200) (pos 1) (pos 1)) (segment 2 (pos 0) ∷ segment 1 (pos 200) ∷ [])
ends = search rules

pub shown : ShowsDanger stacked 1 (IsInCell stacked 1 0 0 0) (seen_in_halves (pos 100))
shown = record {
  q = 2;
  state = state (pos 1501) (pos 501) (pos 200) (pos 1) (pos 1);
  response = segment 2 (pos 0) ∷ segment 1 (pos 200) ∷ [];
  range = refl;
  closing = refl;
  altitude = refl;
  own = refl;
  intruder = refl;
  time = refl;
  flown = parts;
  contact = ends;
  reduced = all_reduced;
}

ends_there : EndsInVerticalContact 120 climbing (area_of_cell stacked 0 0 0) (times (over (pos 1) 1) (over (pos 3) 1)) 2 (pos 200) (pos 1) (pos 1) (segment 2 (pos 0) ∷ segment 1 (pos 200) ∷ [])
ends_there = search rules

pub in_contact : IsFlightInContact 120 climbing (area_of_cell stacked 0 0 0) (times (over (pos 1) 1) (over (pos 3) 1)) (seen_in_halves (pos 100)).flight
in_contact = record {
  q = 2;
  altitude = pos 200;
  own = pos 1;
  intruder = pos 1;
  response = segment 2 (pos 0) ∷ segment 1 (pos 200) ∷ [];
  time_over = refl;
  altitude_over = refl;
  own_over = refl;
  intruder_over = refl;
  flown = parts;
  contact = ends_there;
  reduced = flight_reduced;
}
