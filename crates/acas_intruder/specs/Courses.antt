-- The course that is found in an area, as flown, and what is printed of its turn.
use Rattle.std.specs.Prelude.{ℕ, ◌*◌, ◌≤◌, ℤ}
use Rattle.acas_frac.specs.Fraction.{Fraction, whole_of}
use Rattle.acas_flight.specs.Response.{Demand}
use Rattle.acas_flight.specs.Window.{Times}
use Rattle.acas_flight.specs.Clear.{Area}
use Rattle.acas_areas.specs.Search.{unit}
use Rattle.acas_areas.specs.Value.{thinnest}
use Rattle.acas_rulings.specs.Intruder.{Manoeuvre}
use Rattle.acas_rulings.specs.Least.{IsRaceExtreme}
use Rattle.acas_rulings.specs.Race.{high_race, low_race, turned}
use Rattle.acas_rulings.specs.Hunt.{CanMeet, Course, Finds, Hunt, IsHunt}
use Rattle.acas_rulings.specs.Verdicts.{hunt_between}
use Rattle.acas_rulings.specs.declared.meeting.Meeting.{Meeting}
use Rattle.acas_witness_plans.specs.Plans.{IsPlanOf}
use Rattle.acas_witness_response.specs.PrintedPlans.{AreSegmentsFor}
use Rattle.acas_meeting_search.specs.Turns.{IsTurnOf}
use Rattle.acas_meeting_search.specs.declared.parts.Flown.{Flown}
use Rattle.acas_meeting_search.specs.declared.parts.Turn.{Turn}

-- the course as flown is one that the hunt finds
pub record IsFoundBy (half : ℕ) (h : Hunt) (f : Flown) : Type 0 where
  pub course : Course
  pub found : Finds half h course
  pub plan : IsPlanOf (unit h.search) course.own f.plan
  pub turn : IsTurnOf (unit h.search) course f.turn

-- the course as flown is the one that is found in the area, between the two first times of a least gap
pub record IsCourseIn (half : ℕ) (a : Demand) (may : Manoeuvre) (area : Area) (w : Times) (f : Flown) : Type 0 where
  pub low : Fraction
  pub high : Fraction
  pub at_low : IsRaceExtreme (low_race a may area) w low
  pub at_high : IsRaceExtreme (turned (high_race a may area)) w high
  pub thick : thinnest ≤ 2 * half
  pub fine : IsHunt (hunt_between a may area low high)
  pub can : CanMeet half (hunt_between a may area low high)
  pub found : IsFoundBy half (hunt_between a may area low high) f

-- the intruder's printed segments are those of the turn with the acceleration
abbrev pub PrintsTurn : ℤ → Turn → Meeting → Type 0
PrintsTurn accel turn m = AreSegmentsFor turn.intruder turn.goal (whole_of accel) turn.time m.intruder_first m.intruder_second
