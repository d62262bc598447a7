-- The meeting of a box.
use Rattle.std.proofs.Common.{◌≡◌, ℕ, ◌*◌, ◌<◌, ◌∷◌, refl, inl, arith, ℤ, pos, unsigned_abs}
use Rattle.std.specs.List.{All}
use Rattle.std.proofs.lemmas.Int.{ints}
use Rattle.std.proofs.lemmas.List.Elements.{All-head, All-tail}
use Rattle.acas_spec.specs.Model.{ModelData}
use Rattle.acas_frac.specs.Fraction.{Fraction, IsReduced, whole_of}
use Rattle.acas_flight.specs.Response.{demand_of}
use Rattle.acas_flight.specs.Window.{IsWindowOfBox, Times}
use Rattle.acas_flight.specs.Clear.{area_of_box}
use Rattle.acas_areas.specs.Limits.{IsCurve}
use Rattle.acas_areas.specs.Search.{unit}
use Rattle.acas_rulings.specs.Boxes.{AuditedBox}
use Rattle.acas_rulings.specs.Ranges.{IsBoxesRange, IsContactOfBox}
use Rattle.acas_rulings.specs.Intruder.{Manoeuvre}
use Rattle.acas_rulings.specs.declared.manoeuvre.Manoeuvre as declared
use Rattle.acas_rulings.specs.Hunt.{Course, accel}
use Rattle.acas_rulings.specs.PrintedMeetings.{PrintsCourse, course_fractions, meeting_fractions}
use Rattle.acas_rulings.specs.Verdicts.{IsMet, hunt_between}
use Rattle.acas_rulings.specs.declared.meeting.Meeting.{Meeting}
use Rattle.acas_hunt_lemmas.proofs.Prints.{printed-contact}
use Rattle.acas_hunt_lemmas.proofs.Showing.{shown-endangers, shows-meeting}
use Rattle.acas_witness_plans.specs.Plans.{IsPlanOf}
use Rattle.acas_witness_plans.proofs.Overs.{whole_over_ℕ}
use Rattle.acas_areas.proofs.Finer.{IsOver-finer}
use Rattle.acas_witness_response.specs.PrintedPlans.{IsFineBend, PrintsPlan}
use Rattle.acas_witness.proofs.Contacts.{planned_dens}
use Rattle.acas_meeting_search.specs.Turns.{IsTurnOf}
use Rattle.acas_meeting_search.specs.declared.parts.Flown.{Flown}
use Rattle.acas_intruder.specs.Courses.{IsCourseIn, PrintsTurn}
use Rattle.acas_intruder.proofs.Finding.{timed}

-- the time of a curve and that of its bend have small denominators
pub fine_bend : (v k b t : Fraction) → IsCurve v k b t → IsFineBend v k b t
fine_bend v k b t curve =
    let d = planned_dens v k b (whole_of (pos 0)) t (record { curve = curve; hold = record { some = omega arith; den = omega arith; least = omega (arith, ints); greatest = omega (arith, ints) }; hold_fine = inl refl }) in
    let same : t.den * 1 ≡ t.den = omega arith in
    rw same at d

-- the acceleration is a natural number
pub accel_is : (may : declared.Manoeuvre) → may.accel ≡ pos (unsigned_abs may.accel)
accel_is may = omega (arith, ints, may.within.least_accel)

-- what is printed of a course as flown
pub prints-course : (q n : ℕ) (z : ℤ) (c : Course) (f : Flown) (m : Meeting) → 0 < q → z ≡ pos n → IsPlanOf q c.own f.plan → IsTurnOf q c f.turn →
    PrintsPlan f.plan m.witness.flight → PrintsTurn z f.turn m → PrintsCourse q (n * q) c m
prints-course q n z c f m s e plan turn own against = record {
  own = own.over q c.own s plan;
  against = against q c.own.intruder c.goal (n * q) (c.own.time * (q * (n * q))) s turn.intruder turn.goal (whole_over_ℕ n z q (n * q) (whole_of z) refl e refl)
      (IsOver-finer f.turn.time q (q * (n * q)) (pos c.own.time) turn.time);
}

-- the box is met
pub met : (m : ModelData) (may : Manoeuvre) (b : AuditedBox) (w : Times) (f : Flown) (meeting : Meeting) → IsWindowOfBox m b.states.range b.states.closing w →
    (n : IsCourseIn m.half (demand_of m b.advisory) may (area_of_box b.states) w f) →
    PrintsCourse (unit (hunt_between (demand_of m b.advisory) may (area_of_box b.states) n.low n.high).search) (accel (hunt_between (demand_of m b.advisory) may (area_of_box b.states) n.low n.high)) n.found.course meeting →
    IsBoxesRange m.radius b.states.range b.states.closing meeting.witness.flight.time meeting.witness.range meeting.witness.speed →
    IsContactOfBox m.radius b.states.range b.states.closing meeting.witness.flight.time meeting.witness.range meeting.witness.speed →
    All IsReduced (meeting_fractions meeting) → IsMet m may b meeting
met m may b w f meeting window n prints ranged near reduced =
    let a = demand_of m b.advisory in
    let area = area_of_box b.states in
    let range = meeting.witness.range in
    let speed = meeting.witness.speed in
    let others = course_fractions meeting in
    let after = All-tail IsReduced range (speed ∷ others) reduced in
    let contact = printed-contact m.half (hunt_between a may area n.low n.high) w n.found.course meeting n.thick n.fine (timed m.half a may area w f n) n.can n.found.found prints (All-tail IsReduced speed others after) in
    let shown = shows-meeting m may b w meeting contact near (All-head IsReduced range (speed ∷ others) reduced) (All-head IsReduced speed others after) in
    record {
      endangered = shown-endangers m may b meeting shown;
      rule = record {
        times = w;
        window = window;
        of_area = record {
          low = n.low;
          high = n.high;
          at_low = n.at_low;
          at_high = n.at_high;
          course = n.found.course;
          found = n.found.found;
          prints = prints;
        };
        range = ranged;
      };
      shown = shown;
    }
