-- Each flight of a search can be printed in lowest terms.
use Rattle.std.proofs.Common.{◌≡◌, ℕ, ◌-◌, ◌*◌, ◌<◌, refl, sym, one-mul, arith, Option, Some, None, List, [], ◌∷◌, ◌++◌, ℤ, pos, ◌-ℤ◌, unsigned_abs, min, mul-pos}
use Rattle.std.proofs.lemmas.List.Elements.{All-from_recursion}
use Rattle.std.specs.List.{All}
use Rattle.acas_frac.specs.Fraction.{Fraction, whole_of, IsReduced}
use Rattle.acas_frac.proofs.Reduced.{some_reduced}
use Rattle.acas_flight.specs.Response.{Segment}
use Rattle.acas_flight.specs.Values.{IsOver}
use Rattle.acas_areas.specs.Flights.{Flight}
use Rattle.acas_areas.specs.Responses.{segment, IsHoldFor, not_held, held_for, IsApproachFor, at_once, at_aim, before, past, fine, scale, acceleration}
use Rattle.acas_pass_lemmas.proofs.Founds.{response}
use Rattle.acas_witness_plans.proofs.Portions.{none_over}
use Rattle.acas_rulings.specs.declared.flight.Flight as printed
use Rattle.acas_rulings.specs.declared.flight.Segment as part
use Rattle.acas_rulings.specs.Printed.{IsPart, AreParts, no_parts, a_part, IsHeldPart, Prints, level, hold_part, some_part, flight_fractions}
use Rattle.acas_ruling_laws.proofs.Parts.{AreReduced, append-reduced}

pub whole_reduced : (z : ℤ) → IsReduced (whole_of z)
whole_reduced z = record { some = omega arith; lowest = (∣ (unsigned_abs z, sym (one-mul (unsigned_abs z))) ∣₁, ∣ (1, refl) ∣₁, λ k i j. j) }

-- a fraction in lowest terms of a number over n
pub record IsValue (n : ℕ) (i : ℤ) : Type 0 where
  pub fraction : Fraction
  pub over : IsOver n i fraction
  pub reduced : IsReduced fraction

pub value_of : (n : ℕ) (i : ℤ) → 0 < n → IsValue n i
value_of n i p = let r = some_reduced i n p in record { fraction = r.fraction; over = sym r.same; reduced = r.reduced }

-- ---- segments

pub record HasPart (n : ℕ) (s : Segment) : Type 0 where
  pub printed : part.Segment
  pub is : IsPart n s printed
  pub duration : IsReduced printed.duration
  pub acceleration : IsReduced printed.acceleration

pub part_of : (n : ℕ) (s : Segment) → 0 < n → HasPart n s
part_of n s p =
    let d = value_of n (pos s.duration) p in
    let a = value_of n s.acceleration p in
    record {
      printed = record { duration = d.fraction; acceleration = a.fraction };
      is = record { duration = d.over; acceleration = a.over };
      duration = d.reduced;
      acceleration = a.reduced;
    }

-- ---- the hold

pub record HasHold (n t : ℕ) : Type 0 where
  pub printed : Option Fraction
  pub is : IsHeldPart n t printed
  pub reduced : AreReduced (hold_part printed)

pub hold_of : (n t : ℕ) (xs : List Segment) → 0 < n → IsHoldFor t xs → HasHold n t
hold_of n _ _ p not_held = record { printed = None; is = record { segments = []; held = not_held; part = no_parts }; reduced = tt }
hold_of n _ _ p (held_for t q) =
    let d = value_of n (pos t) p in
    record {
      printed = Some d.fraction;
      is = record {
        segments = segment t (pos 0) ∷ [];
        held = held_for t q;
        part = a_part (segment t (pos 0)) (level d.fraction) [] [] (record { duration = d.over; acceleration = none_over n (whole_of (pos 0)) refl }) no_parts;
      };
      reduced = (d.reduced, (whole_reduced (pos 0), tt));
    }

-- ---- the approach

pub record HasParts (n : ℕ) (xs : List Segment) : Type 0 where
  pub first : Option part.Segment
  pub second : Option part.Segment
  pub are : AreParts n xs (some_part first ++ some_part second)
  pub in_order : first ≡ None → second ≡ None
  pub reduced : AreReduced (some_part first ++ some_part second)

pub no_segment : (n : ℕ) → HasParts n []
no_segment n = record { first = None; second = None; are = no_parts; in_order = λ e. refl; reduced = tt }

pub one_segment : (n : ℕ) (s : Segment) → 0 < n → HasParts n (s ∷ [])
one_segment n s p =
    let f = part_of n s p in
    record { first = Some f.printed; second = None; are = a_part s f.printed [] [] f.is no_parts; in_order = λ e. refl; reduced = (f.duration, (f.acceleration, tt)) }

pub two_segments : (n : ℕ) (s t : Segment) → 0 < n → HasParts n (s ∷ t ∷ [])
two_segments n s t p =
    let f = part_of n s p in
    let g = part_of n t p in
    record {
      first = Some f.printed;
      second = Some g.printed;
      are = a_part s f.printed (t ∷ []) (g.printed ∷ []) f.is (a_part t g.printed [] [] g.is no_parts);
      in_order = λ e. cc;
      reduced = (f.duration, (f.acceleration, (g.duration, (g.acceleration, tt))));
    }

pub parts_of : (n bend : ℕ) (c : ℤ) (t : ℕ) (xs : List Segment) → 0 < n → IsApproachFor bend c t xs → HasParts n xs
parts_of n bend c _ _ p at_once = no_segment n
parts_of n bend c _ _ p (at_aim t q e) = one_segment n (segment t (pos 0)) p
parts_of n bend c _ _ p (before t q s h) = one_segment n (segment t c) p
parts_of n bend c _ _ p (past t s h) = two_segments n (segment bend c) (segment (t - bend) (pos 0)) p

-- ---- the flight

pub record IsPrinted (q : ℕ) (c : Flight) : Type 0 where
  pub flight : printed.Flight
  pub prints : Prints q c flight
  pub reduced : All IsReduced (flight_fractions flight)

pub printed_flight : (q : ℕ) (c : Flight) → 0 < q → 0 < c.pull → IsPrinted q c
printed_flight q c p b =
    let n : 0 < fine q c = mul-pos p (mul-pos p b) in
    let r = response q c in
    let time = value_of q (pos c.time) p in
    let own = value_of (q * q) c.own (mul-pos p p) in
    let intruder = value_of (q * q) c.intruder (mul-pos p p) in
    let hold = hold_of (fine q c) (min c.time c.hold * scale q c) r.0 n r.2.held in
    let rest = parts_of (fine q c) (unsigned_abs (c.aim -ℤ c.own) * q) (acceleration q c) ((c.time - c.hold) * scale q c) r.1 n r.2.approached in
    let f : printed.Flight = record { time = time.fraction; h = c.altitude; v0 = own.fraction; v1 = intruder.fraction; hold = hold.printed; first = rest.first; second = rest.second } in
    record {
      flight = f;
      prints = record {
        time = time.over;
        altitude = refl;
        own = own.over;
        intruder = intruder.over;
        hold = hold.is;
        segments = record { segments = r.1; approached = r.2.approached; parts = rest.are; in_order = rest.in_order };
      };
      reduced = All-from_recursion IsReduced (flight_fractions f)
          (time.reduced, (own.reduced, (intruder.reduced, append-reduced (hold_part hold.printed) (some_part rest.first ++ some_part rest.second) hold.reduced rest.reduced)));
    }
