-- The search of a meeting with an intruder that may change its rate, from the low course of an area to its high course.
use Rattle.std.specs.Prelude.{ℕ, ◌*◌, ◌<◌, ◌≤◌, List, [], ◌∷◌, ℤ, pos, neg_ℤ, ◌-ℤ◌, ◌*ℤ◌, ◌≤ℤ◌, ◌+ℤ◌, unsigned_abs}
use Rattle.acas_frac.specs.Fraction.{Fraction}
use Rattle.acas_flight.specs.Curves.{approach, held}
use Rattle.acas_flight.specs.Response.{Segment}
use Rattle.acas_areas.specs.Flights.{Flight, flight}
use Rattle.acas_areas.specs.Passes.{Pass, IsFound, moving_down}
use Rattle.acas_areas.specs.Responses.{IsResponse}
use Rattle.acas_areas.specs.Search.{Search, IsSearch, unit, rate_step, over_square, low_flight, high_flight, after_altitude, time_pass, altitude_pass, intruder_pass, aim_pass, pull_pass, hold_pass, own_pass, fastest}
use Rattle.acas_rulings.specs.Intruder.{Manoeuvre}

-- A flight of the search, and the rate to which the intruder goes, over q^2: its rate at the start is the flight's.
pub record Course : Type 0 where
  pub own : Flight
  pub goal : ℤ

abbrev pub course : Flight → ℤ → Course
course c m = record { own = c; goal = m }

-- where the intruder ends that goes to the goal with the acceleration a, times a, over q^4
abbrev pub intruder_end : ℕ → ℕ → Course → ℤ
intruder_end q a c = c.own.altitude *ℤ pos (q * q * q * a) +ℤ approach c.own.intruder c.goal a c.own.time

-- the own climb less where the intruder ends, in ticks
abbrev pub value : ℕ → ℕ → Course → Fraction
value q a c = record {
  num = held c.own.own c.own.aim c.own.pull c.own.hold c.own.time *ℤ pos a -ℤ intruder_end q a c *ℤ pos c.own.pull;
  den = q * q * q * c.own.pull * a;
}

-- what is searched: what is searched of an intruder that holds its rate, and what the intruder may do
pub record Hunt : Type 0 where
  pub search : Search
  pub may : Manoeuvre

-- its greatest acceleration, and its greatest and its least rate, over the common denominator
abbrev pub accel : Hunt → ℕ
accel h = h.may.accel * unit h.search

abbrev pub top : Hunt → ℤ
top h = over_square h.search (pos h.may.rate)

abbrev pub bottom : Hunt → ℤ
bottom h = over_square h.search (neg_ℤ (pos h.may.rate))

-- the low course: the low flight, and the intruder goes to its greatest rate
abbrev pub low_course : Hunt → Course
low_course h = course (low_flight h.search) (top h)

-- the high course: the high flight, and the intruder goes to its least rate
abbrev pub high_course : Hunt → Course
high_course h = course (high_flight h.search) (bottom h)

-- ---- the passes: those of an intruder that holds its rate, each toward one goal, and one over the goal

abbrev pub toward : ℤ → Pass Flight → Pass Course
toward m p = record { point = λ i. course (p.point i) m; way = p.way; step = p.step }

abbrev pub goal_pass : Hunt → Pass Course
goal_pass h = moving_down (course (after_altitude h.search)) (top h) (bottom h) (rate_step h.search)

-- the passes, in the order in which they are tried
abbrev pub passes : Hunt → List (Pass Course)
passes h =
    toward (top h) (time_pass h.search) ∷ toward (top h) (altitude_pass h.search) ∷ goal_pass h ∷ toward (bottom h) (intruder_pass h.search)
    ∷ toward (bottom h) (aim_pass h.search) ∷ toward (bottom h) (pull_pass h.search) ∷ toward (bottom h) (hold_pass h.search) ∷ toward (bottom h) (own_pass h.search) ∷ []

-- the course that the search finds
abbrev pub Finds : ℕ → Hunt → Course → Type 0
Finds half h c = IsFound (value (unit h.search) (accel h)) half (low_course h) (high_course h) (passes h) c

-- ---- what may be searched

-- the intruder may have some acceleration, and each rate of the area
pub record IsHunt (h : Hunt) : Type 0 where
  pub search : IsSearch h.search
  pub some : 0 < h.may.accel
  pub rate : h.may.rate ≤ fastest
  pub least : unsigned_abs h.search.area.intruder.least ≤ h.may.rate
  pub greatest : unsigned_abs h.search.area.intruder.greatest ≤ h.may.rate

-- the low course is not above the puck, and the high course is not below it
pub record CanMeet (half : ℕ) (h : Hunt) : Type 0 where
  pub low : (value (unit h.search) (accel h) (low_course h)).num ≤ℤ pos (half * (value (unit h.search) (accel h) (low_course h)).den)
  pub high : neg_ℤ (pos (half * (value (unit h.search) (accel h) (high_course h)).den)) ≤ℤ (value (unit h.search) (accel h) (high_course h)).num

-- ---- the response and the intruder's flight

-- the intruder's flight as one of a pilot, which begins at once
abbrev pub of_intruder : ℕ → Course → Flight
of_intruder a c = flight c.own.time (pos 0) c.own.intruder (pos 0) c.goal a 0

-- the response of the course, over q*q*pull, and the intruder's flight, over q*q*a
pub record IsFlownBy (q a : ℕ) (c : Course) (hold rest turn : List Segment) : Type 0 where
  pub response : IsResponse q c.own hold rest
  pub against : IsResponse q (of_intruder a c) [] turn
