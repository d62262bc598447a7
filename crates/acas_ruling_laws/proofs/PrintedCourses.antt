-- Each course can be printed in lowest terms.
use Rattle.std.proofs.Common.{◌≡◌, ℕ, ◌-◌, ◌*◌, ◌<◌, arith, Option, List, ◌++◌, ℤ, pos, ◌-ℤ◌, unsigned_abs, sym, mul-pos}
use Rattle.std.proofs.lemmas.Int.{ints}
use Rattle.std.specs.List.{All}
use Rattle.std.proofs.lemmas.List.Elements.{All-append, All-from_recursion}
use Rattle.acas_frac.specs.Fraction.{Fraction, IsReduced}
use Rattle.acas_frac.proofs.Reduced.{num_ahead}
use Rattle.acas_flight.specs.Response.{Segment}
use Rattle.acas_flight.specs.Values.{IsOver}
use Rattle.acas_flight.specs.Window.{IsDuring, Times}
use Rattle.acas_areas.specs.Responses.{IsApproachFor, acceleration}
use Rattle.acas_rulings.specs.declared.flight.Flight as printed
use Rattle.acas_rulings.specs.declared.flight.Segment as part
use Rattle.acas_rulings.specs.Printed.{AreSegments, Prints, flight_fractions, some_part}
use Rattle.acas_witness.proofs.Contacts.{during_of}
use Rattle.acas_ruling_laws.proofs.Parts.{AreReduced, parts_fractions}
use Rattle.acas_ruling_laws.proofs.Printed.{parts_of, printed_flight}
use Rattle.acas_ruling_laws.proofs.Somes.{HasTime}
use Rattle.acas_rulings.specs.declared.meeting.Meeting.{Meeting}
use Rattle.acas_rulings.specs.Hunt.{Course, of_intruder}
use Rattle.acas_rulings.specs.PrintedMeetings.{against_of, course_fractions}
use Rattle.acas_hunt_lemmas.proofs.Founds.{flown_by}

-- the own flight and the intruder's segments of a course, in lowest terms
pub record IsPrinted (q a : ℕ) (c : Course) : Type 0 where
  pub flight : printed.Flight
  pub first : Option part.Segment
  pub second : Option part.Segment
  pub own : Prints q c.own flight
  pub against : AreSegments q c.own.intruder c.goal a (c.own.time * (q * a)) first second
  pub flight_reduced : All IsReduced (flight_fractions flight)
  pub against_reduced : AreReduced (some_part first ++ some_part second)

-- an approach that begins at once is flown for the whole time
throughout : {bend : ℕ} {k : ℤ} {segments : List Segment} (t t' n : ℕ) → t' ≡ t → IsApproachFor bend k (t' * n) segments → IsApproachFor bend k (t * n) segments
throughout t t' n e i = rw e at i

pub printed_course : (q a : ℕ) (c : Course) → 0 < q → 0 < a → 0 < c.own.pull → IsPrinted q a c
printed_course q a c p s b =
    let f = printed_flight q c.own p b in
    let by = flown_by q a c in
    let approached = throughout c.own.time (c.own.time - 0) (q * a) (omega arith) by.3.against.approached in
    let r = parts_of (q * (q * a)) (unsigned_abs (c.goal -ℤ c.own.intruder) * q) (acceleration q (of_intruder a c)) (c.own.time * (q * a)) by.2 (mul-pos p (mul-pos p s)) approached in
    record {
      flight = f.flight;
      first = r.first;
      second = r.second;
      own = f.prints;
      against = record { segments = by.2; approached = approached; parts = r.are; in_order = r.in_order };
      flight_reduced = f.reduced;
      against_reduced = r.reduced;
    }

-- its time is one of the window
pub time_in : (w : Times) (time : Fraction) (q t : ℕ) → 0 < q → IsReduced time → IsOver q (pos t) time → IsDuring q w t → HasTime w time
time_in w time q t p reduced over during =
    let ahead = num_ahead time (pos t) q p (sym over) (omega (arith, ints)) in
    record { some = reduced.some; ahead = omega (arith, ints, ahead); during = during_of w time q t p ahead over during }

-- every fraction of the flights of a meeting
pub course_reduced : (m : Meeting) → All IsReduced (flight_fractions m.witness.flight) → AreReduced (against_of m) → All IsReduced (course_fractions m)
course_reduced m flight against = All-append IsReduced (flight_fractions m.witness.flight) (parts_fractions (against_of m)) flight (All-from_recursion IsReduced (parts_fractions (against_of m)) against)
