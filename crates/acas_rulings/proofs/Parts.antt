-- Printed segments over finer denominators, and one after another.
use Rattle.std.proofs.Common.{ℕ, ◌*◌, List, ◌++◌, pos, ◌*ℤ◌}
use Rattle.acas_flight.specs.Response.{Segment}
use Rattle.acas_flight.specs.Parts.{finer}
use Rattle.acas_areas.proofs.Finer.{IsOver-finer}
use Rattle.acas_rulings.specs.Printed.{AreParts, IsPart, a_part, no_parts}
use Rattle.acas_rulings.specs.declared.flight.Segment as part

-- a printed segment over a finer denominator
IsPart-finer : (n m : ℕ) (s : Segment) (f : part.Segment) → IsPart n s f →
    IsPart (n * m) (record { duration = s.duration * m; acceleration = s.acceleration *ℤ pos m }) f
IsPart-finer n m s f is = record {
  duration = IsOver-finer f.duration n m (pos s.duration) is.duration;
  acceleration = IsOver-finer f.acceleration n m s.acceleration is.acceleration;
}

-- the same of printed segments
pub AreParts-finer : (n m : ℕ) (segments : List Segment) (parts : List part.Segment) → AreParts n segments parts → AreParts (n * m) (finer m segments) parts
AreParts-finer n m _ _ no_parts = no_parts
AreParts-finer n m _ _ (a_part s f rest others is more) =
    a_part (record { duration = s.duration * m; acceleration = s.acceleration *ℤ pos m }) f (finer m rest) others (IsPart-finer n m s f is) (AreParts-finer n m rest others more)

-- printed segments and the ones after them
pub AreParts-append : (n : ℕ) (xs ys : List Segment) (fs gs : List part.Segment) → AreParts n xs fs → AreParts n ys gs → AreParts n (xs ++ ys) (fs ++ gs)
AreParts-append n _ ys _ gs no_parts more = more
AreParts-append n _ ys _ gs (a_part s f rest others is parts) more = a_part s f (rest ++ ys) (others ++ gs) is (AreParts-append n rest ys others gs parts more)
