-- Flights of a second from a cell under clear of conflict.
use Rattle.std.specs.Prelude.{◌≡◌, ℕ, ◌<◌, List, ℤ, pos, ◌*ℤ◌}
use Rattle.acas_spec.specs.Model.{ModelData}
use Rattle.acas_flight.specs.Contact.{vertical_separation}
use Rattle.acas_flight.specs.Response.{Meets, Segment, climb, demand_of, lasting, scaled}
use Rattle.acas_flight.specs.State.{IsInCell, State}
use Rattle.acas_cells.specs.Cells.{Cell}

-- from a state of the cell, over q, the response meets clear of conflict, and lasts a second
pub record FliesASecond (m : ModelData) (c : Cell) (q : ℕ) (s : State) (first : List Segment) : Type 0 where
  pub some : 0 < q
  pub inside : IsInCell m c.n c.i c.j c.k q s
  pub clear : Meets (scaled q (demand_of m 0)) (s.own *ℤ pos q) first
  pub one_second : lasting first ≡ q

-- how far the intruder is above then, over q^3
abbrev pub altitude_after : ℕ → State → List Segment → ℤ
altitude_after q s first = vertical_separation q s.altitude s.intruder q (climb (s.own *ℤ pos q) first)
