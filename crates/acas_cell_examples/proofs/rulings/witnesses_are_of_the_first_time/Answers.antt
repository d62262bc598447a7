use Rattle.std.proofs.Common.{◌≡◌, ℕ, List, refl, subst, ap, ℤ, pos, ◌*ℤ◌, arith, rules}
use Rattle.std.proofs.lemmas.Int.{ints}
use Rattle.acas_frac.specs.Fraction.{Fraction, Same}
use Rattle.acas_flight.specs.Curves.{approach}
use Rattle.acas_areas.specs.Flights.{Flight, value}
use Rattle.acas_areas.specs.Passes.{IsFound, Pass, at_high, at_low, between}
use Rattle.acas_areas.specs.Search as search
use Rattle.acas_areas.specs.Search.{high_flight, low_flight, passes, unit}
use Rattle.acas_areas.specs.Value.{IsWithinHalf}
use Rattle.acas_flight_examples.specs.Flown.{level, level_area}
use Rattle.acas_flight_examples.specs.Numbers.{over}
use Rattle.acas_flight_examples.proofs.Level.{high_alone, low_alone}
use Rattle.acas_rulings.specs.Printed.{Prints}
use Rattle.acas_rulings.specs.Witness.{search_between}
use Rattle.acas_rulings.specs.declared.flight.Flight as printed
use Rattle.acas_cell_examples.proofs.rulings.witnesses_are_of_the_first_time.Goals as goal

abbrev at_one : search.Search
at_one = search_between level level_area (over (pos 1) 1) (over (pos 1) 1)

in_contact : IsWithinHalf 120 (value (unit at_one) (low_flight at_one))
unfolding approach
in_contact = search rules

-- where the low flight is in contact it is found
low_found : (value : Flight → Fraction) (half : ℕ) (low high : Flight) (ps : List (Pass Flight)) (c : Flight) → IsWithinHalf half (value low) → IsFound value half low high ps c → c ≡ low
low_found value half low high ps _ within (at_low w) = refl
low_found value half low high ps _ within (at_high not w) = absurd (not within)
low_found value half low high ps _ within (between c not n e) = absurd (not within)

record IsPrintedOf (low high : Fraction) (c : Flight) (f : printed.Flight) : Type 0 where
  found : search.IsFound 120 (search_between level level_area low high) c
  prints : Prints (unit (search_between level level_area low high)) c f

at_the_start : (c : Flight) (f : printed.Flight) → IsPrintedOf (over (pos 1) 1) (over (pos 1) 1) c f → Same f.time (over (pos 1) 1)
at_the_start c f p =
    let same : c.time ≡ 2048 = ap (λ (x : Flight). x.time) (low_found (value (unit at_one)) 120 (low_flight at_one) (high_flight at_one) (passes at_one) c in_contact p.found) in
    whole f.time.num f.time.den (rw same at p.prints.time)
  where
    whole : (n : ℤ) (d : ℕ) → pos 2048 *ℤ pos d ≡ n *ℤ pos 2048 → n *ℤ pos 1 ≡ pos 1 *ℤ pos d
    whole n d e = omega (arith, ints, e)

pub returns : goal.returns
returns c f n =
    let p : IsPrintedOf n.low n.high n.flight f = record { found = n.found; prints = n.prints } in
    at_the_start n.flight f
    (subst (λ (h : Fraction). IsPrintedOf (over (pos 1) 1) h n.flight f) (high_alone n.high n.at_high)
    (subst (λ (l : Fraction). IsPrintedOf l n.high n.flight f) (low_alone n.low n.at_low) p))
