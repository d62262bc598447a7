-- Contact, and what an advisory leaves in danger of it. The intruder holds its rate, and the closing speed stays.
use Rattle.std.specs.Prelude.{ℕ, ◌*◌, ◌<◌, ◌≤◌, List, ℤ, pos, ◌+ℤ◌, ◌-ℤ◌, ◌*ℤ◌, unsigned_abs}
use Rattle.acas_spec.specs.Model.{ModelData}
use Rattle.acas_flight.specs.Response.{Segment, demand_of, scaled, climb, lasting, Meets}
use Rattle.acas_flight.specs.State.{State, Box, IsInCell, IsInBox}

-- at the time t the range, which closes at a speed, is at most the radius, on either side
abbrev pub IsHorizontalContact : ℕ → ℕ → ℤ → ℤ → ℕ → Type 0
IsHorizontalContact radius q range closing t = unsigned_abs (range *ℤ pos q -ℤ closing *ℤ pos t) ≤ radius * (q * q)

-- how far above the intruder of an altitude and a rate is at the time t, after an own climb of z, over q^3
abbrev pub vertical_separation : ℕ → ℤ → ℤ → ℕ → ℤ → ℤ
vertical_separation q altitude rate t z = altitude *ℤ pos (q * q) +ℤ pos 2 *ℤ rate *ℤ pos t *ℤ pos q -ℤ z

-- there it is at most the half height above or below
abbrev pub IsVerticalContact : ℕ → ℕ → ℤ → ℤ → ℕ → ℤ → Type 0
IsVerticalContact half q altitude rate t z = unsigned_abs (vertical_separation q altitude rate t z) ≤ half * (q * q * q)

-- the two are in contact at the time t after an own climb of z: the intruder is in the puck, or at its edge
pub record IsInContact (m : ModelData) (q : ℕ) (s : State) (t : ℕ) (z : ℤ) : Type 0 where
  pub horizontal : IsHorizontalContact m.radius q s.range s.closing t
  pub vertical : IsVerticalContact m.half q s.altitude s.intruder t z

-- from a state of the set, over q, the response meets the advisory, and its flight ends in contact
pub record EndsInContact (m : ModelData) (advisory : ℕ) (IsIn : ℕ → State → Type 0) (q : ℕ) (s : State) (response : List Segment) : Type 0 where
  pub some : 0 < q
  pub inside : IsIn q s
  pub meets : Meets (scaled q (demand_of m advisory)) (s.own *ℤ pos q) response
  pub contact : IsInContact m q s (lasting response) (climb (s.own *ℤ pos q) response)

-- a set of states is endangered under an advisory: over some q, some flight from one of them that meets it ends in contact
abbrev pub IsEndangered : ModelData → ℕ → (ℕ → State → Type 0) → Type 0
IsEndangered m advisory IsIn = (q : ℕ) × (s : State) × (response : List Segment) × EndsInContact m advisory IsIn q s response

-- the cell is endangered
abbrev pub IsEndangeredCell : ModelData → ℕ → ℕ → ℕ → ℕ → ℕ → Type 0
IsEndangeredCell m n i j k advisory = IsEndangered m advisory (IsInCell m n i j k)

-- the box is endangered
abbrev pub IsEndangeredBox : ModelData → Box → ℕ → Type 0
IsEndangeredBox m box advisory = IsEndangered m advisory (IsInBox box)
