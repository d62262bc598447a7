-- What is printed of a course that is found is a meeting.
use Rattle.std.proofs.Common.{◌≡◌, ℕ, ◌-◌, ◌*◌, ◌≤◌, sym, ap, ◌∙◌, arith, [], ◌++◌, List, ℤ, pos, ◌*ℤ◌, min}
use Rattle.std.specs.List.{All}
use Rattle.acas_frac.specs.Fraction.{Fraction, IsReduced}
use Rattle.acas_flight.specs.Response.{Demand, Segment, lasting}
use Rattle.acas_flight.specs.Parts.{finer}
use Rattle.acas_flight.specs.Window.{Times}
use Rattle.acas_flight.specs.Clear.{Area}
use Rattle.acas_flight.specs.Values.{IsOver}
use Rattle.acas_flight_lemmas.proofs.Finer.{lasting_finer}
use Rattle.acas_areas.specs.Value.{thinnest}
use Rattle.acas_areas.specs.Search.{IsTimed, unit}
use Rattle.acas_areas.specs.Responses.{IsApproachFor, IsHoldFor, fine, not_held}
use Rattle.acas_pass_lemmas.proofs.Touching.{lasts}
use Rattle.acas_rulings.specs.Printed.{AreParts, hold_part, some_part, segments_of}
use Rattle.acas_areas.proofs.Finer.{IsOver-finer}
use Rattle.acas_rulings.proofs.Parts.{AreParts-append, AreParts-finer}
use Rattle.acas_rulings.specs.Intruder.{Manoeuvre}
use Rattle.acas_rulings.specs.Apart.{IsApart}
use Rattle.acas_rulings.specs.declared.meeting.Meeting.{Meeting}
use Rattle.acas_rulings.specs.Hunt.{CanMeet, Course, Finds, Hunt, IsFlownBy, IsHunt, accel}
use Rattle.acas_rulings.specs.PrintedMeetings.{PrintsCourse, against_of, course_fractions}
use Rattle.acas_rulings.specs.Verdicts.{IsMeetingInContact, IsMeetingOf, hunt_between}
use Rattle.acas_hunt_lemmas.proofs.Founds.{found_meets}
use Rattle.acas_hunt_lemmas.proofs.Verdicts.{can-meet}

-- the printed segments are the response of the course, and the intruder's flight
pub printed-flown : (q a : ℕ) (c : Course) (m : Meeting) (p : PrintsCourse q a c m) →
    IsFlownBy q a c p.own.hold.segments p.own.segments.segments p.against.segments
printed-flown q a c m p = record {
  response = record { held = p.own.hold.held; approached = p.own.segments.approached };
  against = record { held = at_once (min c.own.time 0) (q * a) (omega arith); approached = throughout c.own.time (c.own.time - 0) (omega arith) p.against.approached };
}
  where
    at_once : (t n : ℕ) → t ≡ 0 → IsHoldFor (t * n) []
    at_once t n e = let none : t * n ≡ 0 = rw e (omega arith) in rw none not_held

    throughout : {bend : ℕ} {k : ℤ} {segments : List Segment} (t t' : ℕ) → t' ≡ t → IsApproachFor bend k (t * (q * a)) segments → IsApproachFor bend k (t' * (q * a)) segments
    throughout t t' e i = rw e i

-- a number over a finer denominator that is written in another way
over_same : (f : Fraction) (n n' : ℕ) (i i' : ℤ) → n ≡ n' → i ≡ i' → IsOver n i f → IsOver n' i' f
over_same f n n' i i' e g o = rw (e, g) at o

parts_same : (n n' : ℕ) (m : Meeting) (segments : List Segment) → n ≡ n' → AreParts n segments (against_of m) → AreParts n' segments (against_of m)
parts_same n n' m segments e parts = rw e at parts

module _ (half : ℕ) (h : Hunt) (w : Times) (c : Course) (m : Meeting) (thick : thinnest ≤ 2 * half) (is : IsHunt h) (timed : IsTimed h.search w) (can : CanMeet half h)
    (found : Finds half h c) (p : PrintsCourse (unit h.search) (accel h) c m) (lowest : All IsReduced (course_fractions m)) where
  abbrev q : ℕ
  q = unit h.search

  abbrev a : ℕ
  a = accel h

  abbrev b : ℕ
  b = c.own.pull

  -- the denominator of the meeting
  abbrev whole : ℕ
  whole = fine q c.own * a

  abbrev response : List Segment
  response = p.own.hold.segments ++ p.own.segments.segments

  by : IsFlownBy q a c p.own.hold.segments p.own.segments.segments p.against.segments
  by = printed-flown q a c m p

  response_lasts : pos (c.own.time) *ℤ pos (q * b * a) ≡ pos (lasting (finer a response))
  response_lasts = along c.own.time q b a ∙ sym (ap pos (lasting_finer a response ∙ ap (λ n. n * a) (lasts q c.own p.own.hold.segments p.own.segments.segments by.response)))
    where
      along : (t q b a : ℕ) → pos t *ℤ pos (q * b * a) ≡ pos (t * (q * b) * a)
      along t q b a = let e : t * (q * b * a) ≡ t * (q * b) * a = omega arith in ap pos e

  -- the denominators of a time, of a rate and of the intruder's segments
  of_time : q * (q * b * a) ≡ whole
  of_time = omega arith

  of_rate : (q * q) * b * a ≡ whole
  of_rate = omega arith

  of_against : (q * (q * a)) * b ≡ whole
  of_against = omega arith

  rate_over : (f : Fraction) (v : ℤ) → IsOver (q * q) v f → IsOver whole ((v *ℤ pos b) *ℤ pos a) f
  rate_over f v o = rw of_rate at (IsOver-finer f ((q * q) * b) a (v *ℤ pos b) (IsOver-finer f (q * q) b v o))

  pub printed-contact : IsMeetingInContact half h.search.demand h.may h.search.area w m
  printed-contact = record {
    q = whole;
    altitude = c.own.altitude *ℤ pos whole;
    own = (c.own.own *ℤ pos b) *ℤ pos a;
    intruder = (c.own.intruder *ℤ pos b) *ℤ pos a;
    response = finer a response;
    flight = finer b p.against.segments;
    time_over = over_same m.witness.flight.time (q * (q * b * a)) whole (pos c.own.time *ℤ pos (q * b * a)) (pos (lasting (finer a response))) of_time response_lasts
        (IsOver-finer m.witness.flight.time q (q * b * a) (pos c.own.time) p.own.time);
    altitude_over = ap (λ z. z *ℤ pos whole) (sym p.own.altitude);
    own_over = rate_over m.witness.flight.v0 c.own.own p.own.own;
    intruder_over = rate_over m.witness.flight.v1 c.own.intruder p.own.intruder;
    flown = AreParts-finer (fine q c.own) a response (segments_of m.witness.flight)
        (AreParts-append (fine q c.own) p.own.hold.segments p.own.segments.segments (hold_part m.witness.flight.hold) (some_part m.witness.flight.first ++ some_part m.witness.flight.second) p.own.hold.part p.own.segments.parts);
    against = parts_same ((q * (q * a)) * b) whole m (finer b p.against.segments) of_against
        (AreParts-finer (q * (q * a)) b p.against.segments (against_of m) p.against.parts);
    contact = found_meets h is w timed half thick can c p.own.hold.segments p.own.segments.segments p.against.segments found by;
    reduced = lowest;
  }

-- the meeting of the rule is in contact
pub rule-contact : (half : ℕ) (a : Demand) (may : Manoeuvre) (area : Area) (w : Times) (m : Meeting) (n : IsMeetingOf half a may area w m) → thinnest ≤ 2 * half →
    IsHunt (hunt_between a may area n.low n.high) → ¬ IsApart half a may area w → All IsReduced (course_fractions m) → IsMeetingInContact half a may area w m
rule-contact half a may area w m n thick is apart lowest =
    printed-contact half (hunt_between a may area n.low n.high) w n.course m thick is
    (record { low_after = n.at_low.first.after; low_before = n.at_low.first.before; high_after = n.at_high.first.after; high_before = n.at_high.first.before })
    (can-meet (hunt_between a may area n.low n.high) is half w n.at_low.first n.at_high.first apart) n.found n.prints lowest
