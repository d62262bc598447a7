-- Cells from which an advisory still keeps the two apart when it is given a second later.
use Rattle.std.specs.Prelude.{◌≡◌, ℕ, ◌<◌, ℤ, pos, ◌*ℤ◌, List, [], ◌∷◌, ◌++◌}
use Rattle.acas_spec.specs.Model.{ModelData}
use Rattle.acas_flight.specs.Response.{Meets, Segment, climb, demand_of, lasting, rate_after, scaled}
use Rattle.acas_flight.specs.State.{IsInCell, State}
use Rattle.acas_flight.specs.Contact.{IsInContact}

-- the rate that a response leaves, which starts at the rate v
abbrev pub rate_left : ℤ → List Segment → ℤ
rate_left v [] = v
rate_left v (s ∷ rest) = rate_left (rate_after v s) rest

-- From a state of the cell, over q, the first response meets clear of conflict for a second, and the second one meets the advisory from
-- the rate that the first leaves; the flight through both ends in contact. The second may have no segment.
pub record EndsInContactLater (m : ModelData) (n i j k advisory q : ℕ) (s : State) (first second : List Segment) : Type 0 where
  pub some : 0 < q
  pub inside : IsInCell m n i j k q s
  pub clear : Meets (scaled q (demand_of m 0)) (s.own *ℤ pos q) first
  pub one_second : lasting first ≡ q
  pub meets : Meets (scaled q (demand_of m advisory)) (rate_left (s.own *ℤ pos q) first) second
  pub contact : IsInContact m q s (lasting (first ++ second)) (climb (s.own *ℤ pos q) (first ++ second))

-- the cell is safe by an advisory that is given a second later: no such flight ends in contact
pub record IsSafeBy (m : ModelData) (n i j k advisory : ℕ) : Type 0 where
  pub never : (q : ℕ) (s : State) (first second : List Segment) → EndsInContactLater m n i j k advisory q s first second → ⊥
