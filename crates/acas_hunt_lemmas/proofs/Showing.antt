-- A meeting of a box's area in contact, with a range and a speed, shows the meeting of the box.
use Rattle.std.proofs.Common.{◌*◌, refl, sym, [], ◌∷◌, pos, ◌*ℤ◌, mul-pos}
use Rattle.std.proofs.lemmas.List.Elements.{All-cons}
use Rattle.acas_spec.specs.Model.{ModelData}
use Rattle.acas_frac.proofs.IntRing.{at, ◌⊗◌, ring}
use Rattle.acas_frac.specs.Fraction.{IsReduced}
use Rattle.acas_flight.specs.Response.{demand_of, lasting}
use Rattle.acas_flight.specs.Parts.{finer}
use Rattle.acas_flight.specs.Window.{Times}
use Rattle.acas_flight.specs.Clear.{area_of_box}
use Rattle.acas_flight_lemmas.proofs.Finer.{lasting_finer}
use Rattle.acas_rulings.specs.Boxes.{AuditedBox}
use Rattle.acas_rulings.specs.Printed.{segments_of}
use Rattle.acas_rulings.specs.Ranges.{IsContactOfBox}
use Rattle.acas_areas.proofs.Finer.{IsOver-finer, over_left, over_right}
use Rattle.acas_rulings.proofs.Parts.{AreParts-finer}
use Rattle.acas_rulings.specs.Intruder.{Manoeuvre}
use Rattle.acas_rulings.specs.Meeting.{IsEndangeredBy}
use Rattle.acas_manoeuvre_lemmas.proofs.Windows.{meets-finer}
use Rattle.acas_rulings.specs.declared.meeting.Meeting.{Meeting}
use Rattle.acas_rulings.specs.PrintedMeetings.{against_of, course_fractions}
use Rattle.acas_rulings.specs.Verdicts.{IsMeetingInContact, ShowsMeeting}

-- the meeting over a denominator over which the range and the speed are whole too
pub shows-meeting : (m : ModelData) (may : Manoeuvre) (b : AuditedBox) (w : Times) (meeting : Meeting) →
    IsMeetingInContact m.half (demand_of m b.advisory) may (area_of_box b.states) w meeting →
    IsContactOfBox m.radius b.states.range b.states.closing meeting.witness.flight.time meeting.witness.range meeting.witness.speed →
    IsReduced meeting.witness.range → IsReduced meeting.witness.speed → ShowsMeeting m may b meeting
shows-meeting m may b w meeting f near range_reduced speed_reduced =
    let range = meeting.witness.range in
    let speed = meeting.witness.speed in
    let n = range.den * speed.den in
    let met = meets-finer m.half (demand_of m b.advisory) may (area_of_box b.states) w f.q n f.altitude f.own f.intruder f.response f.flight (mul-pos range_reduced.some speed_reduced.some) f.contact in
    let range_over = over_left f.q speed.den range in
    let speed_over = over_right f.q range.den speed in
    let time_over = rw (sym (lasting_finer n f.response)) at (IsOver-finer meeting.witness.flight.time f.q n (pos (lasting f.response)) f.time_over) in
    record {
      q = f.q * n;
      state = record {
        range = range.num *ℤ pos (f.q * speed.den);
        closing = speed.num *ℤ pos (f.q * range.den);
        altitude = f.altitude *ℤ pos n;
        own = f.own *ℤ pos n;
        intruder = f.intruder *ℤ pos n;
      };
      response = finer n f.response;
      flight = finer n f.flight;
      range = range_over;
      closing = speed_over;
      altitude = rw f.altitude_over (ring (meeting.witness.flight.h ∷ pos f.q ∷ pos n ∷ []) ((at 0 ⊗ at 1) ⊗ at 2) (at 0 ⊗ (at 1 ⊗ at 2)) refl);
      own = IsOver-finer meeting.witness.flight.v0 f.q n f.own f.own_over;
      intruder = IsOver-finer meeting.witness.flight.v1 f.q n f.intruder f.intruder_over;
      time = time_over;
      flown = AreParts-finer f.q n f.response (segments_of meeting.witness.flight) f.flown;
      against = AreParts-finer f.q n f.flight (against_of meeting) f.against;
      meeting = record {
        some = met.some;
        inside = record {
          range = near.range_in (f.q * n) (range.num *ℤ pos (f.q * speed.den)) met.some range_over;
          closing = near.speed_in (f.q * n) (speed.num *ℤ pos (f.q * range.den)) met.some speed_over;
          altitude = met.altitude;
          own = met.own;
          intruder = met.intruder;
        };
        meets = met.meets;
        flown = met.flown;
        together = met.together;
        horizontal = near.contact (f.q * n) (lasting (finer n f.response)) (range.num *ℤ pos (f.q * speed.den)) (speed.num *ℤ pos (f.q * range.den)) met.some time_over range_over speed_over;
        vertical = met.close;
      };
      reduced = All-cons IsReduced range (speed ∷ course_fractions meeting) range_reduced (All-cons IsReduced speed (course_fractions meeting) speed_reduced f.reduced);
    }

-- a meeting that is shown endangers the box
pub shown-endangers : (m : ModelData) (may : Manoeuvre) (b : AuditedBox) (meeting : Meeting) → ShowsMeeting m may b meeting → IsEndangeredBy m b.advisory may b.states
shown-endangers m may b meeting s = (s.q, s.state, s.response, s.flight, s.meeting)
