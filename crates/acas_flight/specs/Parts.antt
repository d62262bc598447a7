-- Demands that can be met, and responses that are cut or counted in finer numbers.
use Rattle.std.specs.Prelude.{ℕ, ◌*◌, ◌<◌, ◌≤◌, ◌-◌, nat_le, nat_lt, List, [], ◌∷◌, pos, ◌*ℤ◌, ◌≤ℤ◌, if◌then◌else◌}
use Rattle.acas_flight.specs.Response.{Segment, Demand}

-- a demand that can be met
pub record CanBeMet (a : Demand) : Type 0 where
  pub ordered : a.lo ≤ℤ a.hi
  pub some_pull : 0 < a.pull
  pub pull_within : a.pull ≤ a.limit

-- the first part of a segment, of the time t
abbrev pub first_part : ℕ → Segment → List Segment
first_part t s = if nat_lt 0 t then record { duration = t; acceleration = s.acceleration } ∷ [] else []

-- the first part of a response, of the time t
abbrev pub until : ℕ → List Segment → List Segment
until t [] = []
until t (s ∷ rest) = if nat_le t s.duration then first_part t s else s ∷ until (t - s.duration) rest

-- the response in numbers over m times the denominator
abbrev pub finer : ℕ → List Segment → List Segment
finer m [] = []
finer m (s ∷ rest) = record { duration = s.duration * m; acceleration = s.acceleration *ℤ pos m } ∷ finer m rest
