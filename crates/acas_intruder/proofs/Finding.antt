-- The course that is found in an area that is not apart.
use Rattle.std.proofs.Common.{◌≡◌, ℕ, ◌*◌, ◌<◌, ◌≤◌, sym, unsigned_abs}
use Rattle.acas_frac.specs.Fraction.{Fraction}
use Rattle.acas_flight.specs.Response.{Demand}
use Rattle.acas_flight.specs.Window.{Times, IsDuring}
use Rattle.acas_flight.specs.Clear.{Area}
use Rattle.acas_areas.specs.Limits.{IsTime}
use Rattle.acas_areas.specs.Search.{IsTimed, unit}
use Rattle.acas_pass_lemmas.proofs.Neighbours.{unit_some}
use Rattle.acas_rulings.specs.Intruder.{Manoeuvre}
use Rattle.acas_areas.specs.Value.{thinnest}
use Rattle.acas_rulings.specs.Apart.{IsApart}
use Rattle.acas_rulings.specs.Least.{IsRaceExtreme}
use Rattle.acas_rulings.specs.Race.{high_race, low_race, turned}
use Rattle.acas_rulings.specs.Hunt.{CanMeet, IsHunt}
use Rattle.acas_rulings.specs.Verdicts.{hunt_between}
use Rattle.acas_hunt_lemmas.proofs.Founds.{found_course}
use Rattle.acas_hunt_lemmas.proofs.Verdicts.{can-meet}
use Rattle.acas_witness_lemmas.proofs.Meetings.{renamed}
use Rattle.acas_witness.proofs.Contacts.{during_of}
use Rattle.acas_meeting_search.specs.Courses.{IsFoundCourse}
use Rattle.acas_meeting_search.specs.View.{hunt_of}
use Rattle.acas_meeting_search.specs.declared.parts.Flown.{Flown}
use Rattle.acas_meeting_search.specs.declared.pursuit.Pursuit.{Pursuit}
use Rattle.acas_meeting_search.proofs.Pursuits.{hunt_fine}
use Rattle.acas_intruder.specs.Courses.{IsCourseIn, IsFoundBy}

-- the course of a pursuit is one of its hunt
pub found_by : (p : Pursuit) (f : Flown) → IsFoundCourse p f → IsFoundBy p.survey.half (hunt_of p) f
found_by p f found = record { course = found.course; found = found.found; plan = found.flown.plan; turn = found.flown.turn }

module _ (half : ℕ) (a : Demand) (may : Manoeuvre) (area : Area) (w : Times) (low high : Fraction) (p : Pursuit) (same : p.survey.half ≡ half) (of : hunt_of p ≡ hunt_between a may area low high)
    (at_low : IsRaceExtreme (low_race a may area) w low) (at_high : IsRaceExtreme (turned (high_race a may area)) w high) (apart : ¬ IsApart half a may area w) where
  fine : IsHunt (hunt_between a may area low high)
  fine = renamed (λ n x. IsHunt x) half p.survey.half (hunt_of p) (hunt_between a may area low high) same of (hunt_fine p)

  can : CanMeet half (hunt_between a may area low high)
  can = can-meet (hunt_between a may area low high) fine half w at_low.first at_high.first apart

  -- so the pursuit can meet
  pub pursuit_can : CanMeet p.survey.half (hunt_of p)
  pursuit_can = renamed CanMeet p.survey.half half (hunt_between a may area low high) (hunt_of p) (sym same) (sym of) can

  -- and what it finds is the course of the area
  pub course_from : (f : Flown) → IsFoundCourse p f → IsCourseIn half a may area w f
  course_from f found = record {
    low = low;
    high = high;
    at_low = at_low;
    at_high = at_high;
    thick = renamed (λ n x. thinnest ≤ 2 * n) half p.survey.half (hunt_of p) (hunt_between a may area low high) same of p.survey.thick;
    fine = fine;
    can = can;
    found = renamed (λ n x. IsFoundBy n x f) half p.survey.half (hunt_of p) (hunt_between a may area low high) same of (found_by p f found);
  }

module _ (half : ℕ) (a : Demand) (may : Manoeuvre) (area : Area) (w : Times) (f : Flown) (n : IsCourseIn half a may area w f) where
  -- both times are in the window
  pub timed : IsTimed (hunt_between a may area n.low n.high).search w
  timed = record { low_after = n.at_low.first.after; low_before = n.at_low.first.before; high_after = n.at_high.first.after; high_before = n.at_high.first.before }

  pub some : 0 < unit (hunt_between a may area n.low n.high).search
  some = unit_some (hunt_between a may area n.low n.high).search n.fine.search

  -- so is that of the course
  pub during : IsTime f.plan.time → IsDuring f.plan.time.den w (unsigned_abs f.plan.time.num)
  during time =
      let from = (found_course (hunt_between a may area n.low n.high) n.fine w timed half n.thick n.can n.found.course n.found.found).0 in
      during_of w f.plan.time (unit (hunt_between a may area n.low n.high).search) n.found.course.own.time some time.least n.found.plan.time from.own.time
