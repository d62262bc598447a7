-- What a printed flight says of a flight of the rule and of its response.
use Rattle.std.specs.Prelude.{◌≡◌, ℕ, ◌-◌, ◌*◌, min, Option, Some, None, List, [], ◌∷◌, ◌++◌, ℤ, pos, neg_ℤ, ◌-ℤ◌, unsigned_abs, int_le, if◌then◌else◌}
use Rattle.std.specs.List.{flat_map}
use Rattle.acas_frac.specs.Fraction.{Fraction, whole_of}
use Rattle.acas_flight.specs.Response.{Segment}
use Rattle.acas_flight.specs.Values.{IsOver}
use Rattle.acas_areas.specs.Flights.{Flight}
use Rattle.acas_areas.specs.Responses.{IsHoldFor, IsApproachFor, fine, scale}
use Rattle.acas_rulings.specs.declared.flight.Flight as printed
use Rattle.acas_rulings.specs.declared.flight.Segment as part
use Rattle.acas_rulings.specs.declared.flight.Witness.{Witness}

-- the printed segment has the segment's numbers over n
pub record IsPart (n : ℕ) (s : Segment) (f : part.Segment) : Type 0 where
  pub duration : IsOver n (pos s.duration) f.duration
  pub acceleration : IsOver n s.acceleration f.acceleration

-- the printed segments are those of a list, over n, one by one
pub data AreParts (n : ℕ) : List Segment → List part.Segment → Type 0 where
  no_parts : AreParts n [] []
  a_part : (s : Segment) (f : part.Segment) (rest : List Segment) (others : List part.Segment) → IsPart n s f → AreParts n rest others → AreParts n (s ∷ rest) (f ∷ others)

-- a printed hold is a segment of acceleration 0
abbrev pub level : Fraction → part.Segment
level duration = record { duration = duration; acceleration = whole_of (pos 0) }

-- the printed segment of a hold, if there is one
abbrev pub hold_part : Option Fraction → List part.Segment
hold_part None = []
hold_part (Some duration) = level duration ∷ []

-- a printed segment, if there is one
abbrev pub some_part : Option part.Segment → List part.Segment
some_part None = []
some_part (Some s) = s ∷ []

-- the printed response: the hold, and then the others
abbrev pub segments_of : printed.Flight → List part.Segment
segments_of f = hold_part f.hold ++ (some_part f.first ++ some_part f.second)

-- every fraction that is printed of a flight
abbrev pub flight_fractions : printed.Flight → List Fraction
flight_fractions f = f.time ∷ f.v0 ∷ f.v1 ∷ flat_map (λ s. s.duration ∷ s.acceleration ∷ []) (segments_of f)

-- every fraction that is printed of a witness
abbrev pub fractions_of : Witness → List Fraction
fractions_of w = w.range ∷ w.speed ∷ flight_fractions w.flight

-- the printed hold is that of the rate for the time t, over n
pub record IsHeldPart (n t : ℕ) (o : Option Fraction) : Type 0 where
  pub segments : List Segment
  pub held : IsHoldFor t segments
  pub part : AreParts n segments (hold_part o)

-- the printed segments, of which none is left out before another, go for the time t, over q*q*b, from the rate v to the aim k with the
-- pull b
pub record AreSegments (q : ℕ) (v k : ℤ) (b t : ℕ) (first second : Option part.Segment) : Type 0 where
  pub segments : List Segment
  pub approached : IsApproachFor (unsigned_abs (k -ℤ v) * q) (if int_le v k then pos (b * (q * b)) else neg_ℤ (pos (b * (q * b)))) t segments
  pub parts : AreParts (q * (q * b)) segments (some_part first ++ some_part second)
  pub in_order : first ≡ None → second ≡ None

-- the printed flight has the numbers of the flight over q, and its response: the hold, and then the segments to the aim
pub record Prints (q : ℕ) (c : Flight) (f : printed.Flight) : Type 0 where
  pub time : IsOver q (pos c.time) f.time
  pub altitude : f.h ≡ c.altitude
  pub own : IsOver (q * q) c.own f.v0
  pub intruder : IsOver (q * q) c.intruder f.v1
  pub hold : IsHeldPart (fine q c) (min c.time c.hold * scale q c) f.hold
  pub segments : AreSegments q c.own c.aim c.pull ((c.time - c.hold) * scale q c) f.first f.second
