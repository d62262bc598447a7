-- The printed flight shows danger.
use Rattle.std.proofs.Common.{◌≡◌, ℕ, ◌*◌, List, [], ◌∷◌, ℤ, pos, ◌*ℤ◌, unsigned_abs, refl, subst, arith, rules}
use Rattle.std.specs.List.{All}
use Rattle.std.proofs.lemmas.Int.{ints}
use Rattle.std.proofs.lemmas.List.Elements.{All-from_recursion}
use Rattle.std.proofs.Math.Nat.{one-dvd}
use Rattle.acas_frac.specs.Fraction.{IsReduced}
use Rattle.acas_flight.specs.Response.{Segment, lasting}
use Rattle.acas_flight.specs.State.{IsInCell}
use Rattle.acas_flight.specs.Contact.{EndsInContact}
use Rattle.acas_flight_examples.specs.Numbers.{over, segment, state}
use Rattle.acas_rulings.specs.Printed.{AreParts, a_part, fractions_of, level, no_parts, segments_of}
use Rattle.acas_rulings.specs.declared.flight.Segment as printed
use Rattle.acas_rulings.specs.Rulings.{ShowsDanger}
use Rattle.acas_cell_examples.specs.Tabled.{stacked}
use Rattle.acas_cell_examples.specs.Witnesses.{half_a_second, part, seen}

pub whole_is_reduced : (n : ℤ) → IsReduced (over n 1)
whole_is_reduced n = record { some = omega arith; lowest = (one-dvd (unsigned_abs n), one-dvd 1, λ k i j. j) }

abbrev pub flown : List Segment
flown = segment 1 (pos 0) ∷ segment 1 (pos 100) ∷ []

all_reduced : (range speed time : ℤ) → All IsReduced (fractions_of (seen range 1 speed time))
all_reduced range speed time =
    All-from_recursion IsReduced (fractions_of (seen range 1 speed time)) (
      whole_is_reduced range,
      (whole_is_reduced speed, (whole_is_reduced time, (whole_is_reduced (pos 0), (whole_is_reduced (pos 0), (whole_is_reduced (pos 1), (whole_is_reduced (pos 0), (whole_is_reduced (pos 1), (whole_is_reduced (pos 100), tt)))))))),
    )

abbrev climb : printed.Segment
climb = part (over (pos 1) 1) (over (pos 100) 1)

pub parts : (range speed : ℤ) → AreParts 1 flown (segments_of (seen range 1 speed (pos 2)).flight)
parts range speed = a_part (segment 1 (pos 0)) (level (over (pos 1) 1)) (segment 1 (pos 100) ∷ []) (climb ∷ []) (record { duration = refl; acceleration = refl })
    (a_part (segment 1 (pos 100)) climb [] [] (record { duration = refl; acceleration = refl }) no_parts)

pub ends_in_contact : EndsInContact stacked 1 (IsInCell stacked 1 0 0 0) 1 (state (pos 1000) (pos 250) (pos 100) (pos 0) (pos 0)) flown
ends_in_contact = search rules

pub ends_in_contact_sooner : EndsInContact stacked 1 (IsInCell stacked 1 0 0 0) 1 (state (pos 1500) (pos 500) (pos 100) (pos 0) (pos 0)) flown
ends_in_contact_sooner = search rules

pub shown : ShowsDanger stacked 1 (IsInCell stacked 1 0 0 0) (seen (pos 1000) 1 (pos 250) (pos 2))
shown = record {
  q = 1;
  state = state (pos 1000) (pos 250) (pos 100) (pos 0) (pos 0);
  response = flown;
  range = refl;
  closing = refl;
  altitude = refl;
  own = refl;
  intruder = refl;
  time = refl;
  flown = parts (pos 1000) (pos 250);
  contact = ends_in_contact;
  reduced = all_reduced (pos 1000) (pos 250) (pos 2);
}

pub shown_sooner : ShowsDanger stacked 1 (IsInCell stacked 1 0 0 0) (seen (pos 1500) 1 (pos 500) (pos 2))
shown_sooner = record {
  q = 1;
  state = state (pos 1500) (pos 500) (pos 100) (pos 0) (pos 0);
  response = flown;
  range = refl;
  closing = refl;
  altitude = refl;
  own = refl;
  intruder = refl;
  time = refl;
  flown = parts (pos 1500) (pos 500);
  contact = ends_in_contact_sooner;
  reduced = all_reduced (pos 1500) (pos 500) (pos 2);
}

half_is_reduced : IsReduced (over (pos 1) 2)
half_is_reduced = record { some = omega arith; lowest = (one-dvd 1, one-dvd 2, λ k i j. i) }

pub shown_over_two : ShowsDanger stacked 1 (IsInCell stacked 0 1 0 0) half_a_second
shown_over_two = record {
  q = 2;
  state = state (pos 1250) (pos 500) (pos 240) (pos 0) (pos 0);
  response = segment 1 (pos 0) ∷ [];
  range = refl;
  closing = refl;
  altitude = refl;
  own = refl;
  intruder = refl;
  time = refl;
  flown = a_part (segment 1 (pos 0)) (level (over (pos 1) 2)) [] [] (record { duration = refl; acceleration = refl }) no_parts;
  contact = search rules;
  reduced = All-from_recursion IsReduced (fractions_of half_a_second) (
    whole_is_reduced (pos 625),
    (whole_is_reduced (pos 250), (half_is_reduced, (whole_is_reduced (pos 0), (whole_is_reduced (pos 0), (half_is_reduced, (whole_is_reduced (pos 0), tt)))))),
  );
}

-- the printed response lasts two seconds
pub lasts_two : (n : ℕ) (response : List Segment) (range speed time : ℤ) (d : ℕ) → AreParts n response (segments_of (seen range d speed time).flight) → lasting response ≡ n * 2
lasts_two n response range speed time d parts = by response (segments_of (seen range d speed time).flight) refl parts
  where
    none : (ss : List Segment) (fs : List printed.Segment) → fs ≡ [] → AreParts n ss fs → lasting ss ≡ 0
    none _ _ e no_parts = refl
    none _ _ e (a_part s f rest others p more) = cc

    last : (ss : List Segment) (fs : List printed.Segment) → fs ≡ climb ∷ [] → AreParts n ss fs → lasting ss ≡ n
    last _ _ e no_parts = cc
    last _ _ e (a_part s f rest others p more) =
        let same : f ≡ climb = cc in
        let long : pos s.duration *ℤ pos 1 ≡ pos 1 *ℤ pos n = subst (λ (x : printed.Segment). pos s.duration *ℤ pos x.duration.den ≡ x.duration.num *ℤ pos n) same p.duration in
        omega (arith, ints, long, none rest others (cc) more)

    by : (ss : List Segment) (fs : List printed.Segment) → fs ≡ level (over (pos 1) 1) ∷ climb ∷ [] → AreParts n ss fs → lasting ss ≡ n * 2
    by _ _ e no_parts = cc
    by _ _ e (a_part s f rest others p more) =
        let same : f ≡ level (over (pos 1) 1) = cc in
        let long : pos s.duration *ℤ pos 1 ≡ pos 1 *ℤ pos n = subst (λ (x : printed.Segment). pos s.duration *ℤ pos x.duration.den ≡ x.duration.num *ℤ pos n) same p.duration in
        omega (arith, ints, long, last rest others (cc) more)
