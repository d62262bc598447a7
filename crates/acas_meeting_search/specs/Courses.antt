-- Courses as flown, and where a search through passes of a pursuit leads.
use Rattle.std.specs.Prelude.{◌≡◌, ℕ, ◌<◌, true}
use Rattle.acas_frac.specs.Fraction.{Fraction, Same}
use Rattle.acas_areas.specs.Passes.{below_at}
use Rattle.acas_areas.specs.Search.{unit}
use Rattle.acas_witness_plans.specs.Plans.{IsPlanOf, CanBeFlown}
use Rattle.acas_witness_search.specs.Passes.{IsMissed, IsHit, IsEndOf}
use Rattle.acas_witness_search.specs.Surveys.{search_of}
use Rattle.acas_rulings.specs.Hunt.{Course, Finds, accel, value}
use Rattle.acas_meeting_search.specs.Stages.{pass_in, passes_from}
use Rattle.acas_meeting_search.specs.Turns.{CanBeFlownWith, IsTurnOf, value_in}
use Rattle.acas_meeting_search.specs.View.{hunt_of}
use Rattle.acas_meeting_search.specs.declared.parts.Flown.{Flown}
use Rattle.acas_meeting_search.specs.declared.parts.Outcome.{Outcome}
use Rattle.acas_meeting_search.specs.declared.pursuit.Pursuit.{Pursuit}
use Rattle.acas_meeting_search.specs.declared.stage.Stage.{Stage}

-- ---- the courses of a pursuit

-- the common denominator of all its courses
abbrev pub unit_of : Pursuit → ℕ
unit_of p = unit (search_of p.survey)

-- the value of a course
abbrev pub value_at : Pursuit → Course → Fraction
value_at p c = value (unit_of p) (accel (hunt_of p)) c

-- the course of that number of a pass
abbrev pub point_of : Pursuit → Stage → ℕ → Course
point_of p stage i = (pass_in stage (hunt_of p)).point i

-- the plan and the turn are those of the course, within the limits of the curves
pub record IsFlownOf (p : Pursuit) (f : Flown) (c : Course) : Type 0 where
  pub plan : IsPlanOf (unit_of p) c.own f.plan
  pub turn : IsTurnOf (unit_of p) c f.turn
  pub flown : CanBeFlown f.plan
  pub turned : CanBeFlownWith p.may.accel f.turn

-- it is that of the course, and has its value
pub record IsOutcomeOf (p : Pursuit) (c : Course) (o : Outcome) : Type 0 where
  pub flown : IsFlownOf p o.flown c
  pub same : Same (value_in o) (value_at p c)
  pub some : 0 < (value_in o).den

-- the course as flown is the one that the search finds
pub record IsFoundCourse (p : Pursuit) (f : Flown) : Type 0 where
  pub course : Course
  pub found : Finds p.survey.half (hunt_of p) course
  pub flown : IsFlownOf p f course

-- ---- from pass to pass

-- the first course of a pass is below
abbrev pub StartsBelow : Pursuit → Stage → Type 0
StartsBelow p stage = below_at (value_at p) p.survey.half (pass_in stage (hunt_of p)) 0 ≡ true

-- the last course of a pass is below
abbrev pub IsMissedIn : Pursuit → Stage → Type 0
IsMissedIn p stage = IsMissed (value_at p) p.survey.half (pass_in stage (hunt_of p))

-- it is not, and the halving of the pass ends at the course as flown
abbrev pub IsHitIn : Pursuit → Stage → Flown → Type 0
IsHitIn p stage f = IsHit (value_at p) p.survey.half (pass_in stage (hunt_of p)) (IsFlownOf p f)

-- the passes from that on end at the course as flown
abbrev pub IsEndFrom : Pursuit → Stage → Flown → Type 0
IsEndFrom p stage f = IsEndOf (value_at p) p.survey.half (passes_from stage (hunt_of p)) (IsFlownOf p f)
