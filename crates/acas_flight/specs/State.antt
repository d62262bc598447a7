-- The states of two aircraft, and the cells and boxes that hold them.
use Rattle.std.specs.Prelude.{ℕ, ◌+◌, ◌*◌, List, ℤ, pos, ◌-ℤ◌, ◌*ℤ◌, ◌≤ℤ◌}
use Rattle.std.specs.Int.{int_max}
use Rattle.acas_spec.specs.Axis.{place_value}
use Rattle.acas_spec.specs.Model.{ModelData}

-- A state, over a denominator q: the range in ft, the closing speed in ft/s, how far the intruder is above in ticks, and the own and
-- the intruder's rate in ft/min.
pub record State : Type 0 where
  pub range : ℤ
  pub closing : ℤ
  pub altitude : ℤ
  pub own : ℤ
  pub intruder : ℤ

-- the numbers from one to another, both included
pub record Interval : Type 0 where
  pub least : ℤ
  pub greatest : ℤ

-- n over q is in the interval
abbrev pub IsInside : ℕ → Interval → ℤ → Type 0
IsInside q s n = ((s.least *ℤ pos q) ≤ℤ n) × (n ≤ℤ (s.greatest *ℤ pos q))

-- ---- cells

-- the closing speeds of a model
abbrev pub closing_speeds : ModelData → Interval
closing_speeds m = record { least = pos m.least_closing; greatest = pos m.greatest_closing }

-- what is left of a range, over q, outside the radius
abbrev pub outside_radius : ℕ → ℕ → ℤ → ℤ
outside_radius radius q range = int_max (pos 0) (range -ℤ pos (radius * q))

-- a range and a closing speed, over q, that lose horizontal separation in n to n + 1 seconds
pub record IsSecondsAway (m : ModelData) (n q : ℕ) (range closing : ℤ) : Type 0 where
  pub ahead : pos 0 ≤ℤ range
  pub speed : IsInside q (closing_speeds m) closing
  pub not_before : (pos n *ℤ closing) ≤ℤ outside_radius m.radius q range
  pub not_after : outside_radius m.radius q range ≤ℤ (pos (n + 1) *ℤ closing)

-- the numbers from a place of an axis to the next
abbrev pub from_place : List ℤ → ℕ → Interval
from_place axis place = record { least = place_value axis place; greatest = place_value axis (place + 1) }

-- the state, over q, is in the cell of n seconds whose lower corner has the places i, j, k
pub record IsInCell (m : ModelData) (n i j k q : ℕ) (s : State) : Type 0 where
  pub away : IsSecondsAway m n q s.range s.closing
  pub altitude : IsInside q (from_place m.grid.h i) s.altitude
  pub own : IsInside q (from_place m.grid.v0 j) s.own
  pub intruder : IsInside q (from_place m.grid.v1 k) s.intruder

-- ---- boxes

-- a box, which holds the states of five intervals
pub record Box : Type 0 where
  pub range : Interval
  pub closing : Interval
  pub altitude : Interval
  pub own : Interval
  pub intruder : Interval

-- the state, over q, is in the box
pub record IsInBox (box : Box) (q : ℕ) (s : State) : Type 0 where
  pub range : IsInside q box.range s.range
  pub closing : IsInside q box.closing s.closing
  pub altitude : IsInside q box.altitude s.altitude
  pub own : IsInside q box.own s.own
  pub intruder : IsInside q box.intruder s.intruder
