-- What a printed meeting says of a course of the rule, and of the flights of both aircraft.
use Rattle.std.specs.Prelude.{ℕ, ◌*◌, List, [], ◌∷◌, ◌++◌}
use Rattle.std.specs.List.{flat_map}
use Rattle.acas_frac.specs.Fraction.{Fraction}
use Rattle.acas_rulings.specs.Printed.{AreSegments, Prints, flight_fractions, some_part}
use Rattle.acas_rulings.specs.declared.flight.Segment as part
use Rattle.acas_rulings.specs.Hunt.{Course}
use Rattle.acas_rulings.specs.declared.meeting.Meeting.{Meeting}

-- the printed segments of the intruder
abbrev pub against_of : Meeting → List part.Segment
against_of m = some_part m.intruder_first ++ some_part m.intruder_second

-- every fraction that is printed of the flights of a meeting
abbrev pub course_fractions : Meeting → List Fraction
course_fractions m = flight_fractions m.witness.flight ++ flat_map (λ s. s.duration ∷ s.acceleration ∷ []) (against_of m)

-- every fraction that is printed of a meeting
abbrev pub meeting_fractions : Meeting → List Fraction
meeting_fractions m = m.witness.range ∷ m.witness.speed ∷ course_fractions m

-- the printed meeting has the numbers of the course over q, its response, and the segments of the intruder to its goal with the
-- acceleration a
pub record PrintsCourse (q a : ℕ) (c : Course) (m : Meeting) : Type 0 where
  pub own : Prints q c.own m.witness.flight
  pub against : AreSegments q c.own.intruder c.goal a (c.own.time * (q * a)) m.intruder_first m.intruder_second
