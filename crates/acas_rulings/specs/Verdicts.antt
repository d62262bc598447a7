-- What a verdict says of a box under an advisory, against an intruder that may change its rate.
use Rattle.std.specs.Prelude.{◌≡◌, ℕ, List, ℤ, pos, ◌*ℤ◌}
use Rattle.std.specs.List.{All}
use Rattle.acas_spec.specs.Model.{ModelData}
use Rattle.acas_frac.specs.Fraction.{Fraction, IsReduced}
use Rattle.acas_flight.specs.Response.{Demand, Segment, demand_of, lasting}
use Rattle.acas_flight.specs.State.{State}
use Rattle.acas_flight.specs.Window.{IsWindowOfBox, Times}
use Rattle.acas_flight.specs.Clear.{Area, area_of_box}
use Rattle.acas_flight.specs.Values.{IsOver}
use Rattle.acas_areas.specs.Search.{unit}
use Rattle.acas_rulings.specs.Boxes.{AuditedBox}
use Rattle.acas_rulings.specs.Printed.{AreParts, segments_of}
use Rattle.acas_rulings.specs.Ranges.{IsBoxesRange}
use Rattle.acas_rulings.specs.Witness.{search_between}
use Rattle.acas_rulings.specs.Intruder.{Manoeuvre}
use Rattle.acas_rulings.specs.Least.{IsRaceExtreme}
use Rattle.acas_rulings.specs.Meeting.{IsEndangeredBy, IsMeeting, MeetsDuring}
use Rattle.acas_rulings.specs.Race.{high_race, low_race, turned}
use Rattle.acas_rulings.specs.Hunt.{Course, Finds, Hunt, accel}
use Rattle.acas_rulings.specs.PrintedMeetings.{PrintsCourse, against_of, course_fractions, meeting_fractions}
use Rattle.acas_rulings.specs.declared.meeting.Meeting.{Meeting}
use Rattle.acas_rulings.specs.declared.verdict.MeetVerdict.{MeetVerdict}
use Rattle.acas_rulings.specs.declared.verdict.MeetVerdict.TheVariants.{Certified, Reported}

-- Over some q the fractions of the meeting are a state of the box; from there its printed response meets the advisory, the intruder may
-- fly its printed segments, both last the printed time, and the two end in contact; and each printed fraction is in lowest terms.
pub record ShowsMeeting (m : ModelData) (may : Manoeuvre) (b : AuditedBox) (w : Meeting) : Type 0 where
  pub q : ℕ
  pub state : State
  pub response : List Segment
  pub flight : List Segment
  pub range : IsOver q state.range w.witness.range
  pub closing : IsOver q state.closing w.witness.speed
  pub altitude : state.altitude ≡ w.witness.flight.h *ℤ pos q
  pub own : IsOver q state.own w.witness.flight.v0
  pub intruder : IsOver q state.intruder w.witness.flight.v1
  pub time : IsOver q (pos (lasting response)) w.witness.flight.time
  pub flown : AreParts q response (segments_of w.witness.flight)
  pub against : AreParts q flight (against_of w)
  pub meeting : IsMeeting m b.advisory may b.states q state response flight
  pub reduced : All IsReduced (meeting_fractions w)

-- ---- the rule

-- the hunt of an area under a demand from one time to another
abbrev pub hunt_between : Demand → Manoeuvre → Area → Fraction → Fraction → Hunt
hunt_between a may area low high = record { search = search_between a area low high; may = may }

-- The meeting of an area that is not apart: the course that is found between the low course, at the first time of the least gap, and
-- the high course, at the first time of the greatest gap.
pub record IsMeetingOf (half : ℕ) (a : Demand) (may : Manoeuvre) (area : Area) (w : Times) (meeting : Meeting) : Type 0 where
  pub low : Fraction
  pub high : Fraction
  pub at_low : IsRaceExtreme (low_race a may area) w low
  pub at_high : IsRaceExtreme (turned (high_race a may area)) w high
  pub course : Course
  pub found : Finds half (hunt_between a may area low high) course
  pub prints : PrintsCourse (unit (search_between a area low high)) (accel (hunt_between a may area low high)) course meeting

-- Over some q the meeting has a state of the area; from there its printed response meets the demand, the intruder may fly its printed
-- segments, both last the printed time, which is one of the window, and the two end within the half height; and each printed fraction of
-- the flights is in lowest terms.
pub record IsMeetingInContact (half : ℕ) (a : Demand) (may : Manoeuvre) (area : Area) (w : Times) (meeting : Meeting) : Type 0 where
  pub q : ℕ
  pub altitude : ℤ
  pub own : ℤ
  pub intruder : ℤ
  pub response : List Segment
  pub flight : List Segment
  pub time_over : IsOver q (pos (lasting response)) meeting.witness.flight.time
  pub altitude_over : altitude ≡ meeting.witness.flight.h *ℤ pos q
  pub own_over : IsOver q own meeting.witness.flight.v0
  pub intruder_over : IsOver q intruder meeting.witness.flight.v1
  pub flown : AreParts q response (segments_of meeting.witness.flight)
  pub against : AreParts q flight (against_of meeting)
  pub contact : MeetsDuring half a may area w q altitude own intruder response flight
  pub reduced : All IsReduced (course_fractions meeting)

-- the meeting of a box, by the rule: that of its area in its window, with the range and the speed of the box
pub record IsMeetingOfBox (m : ModelData) (may : Manoeuvre) (b : AuditedBox) (meeting : Meeting) : Type 0 where
  pub times : Times
  pub window : IsWindowOfBox m b.states.range b.states.closing times
  pub of_area : IsMeetingOf m.half (demand_of m b.advisory) may (area_of_box b.states) times meeting
  pub range : IsBoxesRange m.radius b.states.range b.states.closing meeting.witness.flight.time meeting.witness.range meeting.witness.speed

-- ---- verdicts

-- the box is endangered by a manoeuvre, and the meeting is that of the rule and shows it
pub record IsMet (m : ModelData) (may : Manoeuvre) (b : AuditedBox) (meeting : Meeting) : Type 0 where
  pub endangered : IsEndangeredBy m b.advisory may b.states
  pub rule : IsMeetingOfBox m may b meeting
  pub shown : ShowsMeeting m may b meeting

-- certified: no manoeuvre endangers the box; reported: one does, with this meeting
abbrev pub IsMeetVerdict : ModelData → Manoeuvre → AuditedBox → MeetVerdict → Type 0
IsMeetVerdict m may b Certified = ¬ IsEndangeredBy m b.advisory may b.states
IsMeetVerdict m may b (Reported meeting) = IsMet m may b meeting
