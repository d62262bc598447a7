-- The axes of a grid.
use Rattle.std.specs.Prelude.{ℕ, ◌+◌, ◌<◌, ◌≤◌, ℤ, pos, ◌<ℤ◌, ◌≤ℤ◌, List, length, get_or}
use Rattle.acas_units.specs.declared.limits.TheConstants.{LEAST_VERTICES, GREATEST_VERTICES}

-- the number at a place of an axis
abbrev pub place_value : List ℤ → ℕ → ℤ
place_value axis place = get_or axis place (pos 0)

-- each number is above the one before it
unfoldable pub Rises : List ℤ → Type 0
Rises axis = (place : ℕ) → place + 1 < length axis → place_value axis place <ℤ place_value axis (place + 1)

-- an axis has from the least to the greatest number of vertices, and they rise
pub record IsAxis (axis : List ℤ) : Type 0 where
  pub at_least : LEAST_VERTICES ≤ length axis
  pub at_most : length axis ≤ GREATEST_VERTICES
  pub rising : Rises axis

-- a number is from one limit to another, both included
pub record IsBetween (least greatest z : ℤ) : Type 0 where
  pub low : least ≤ℤ z
  pub high : z ≤ℤ greatest

-- each number of the list is from one limit to another
pub record IsWithin (least greatest : ℤ) (axis : List ℤ) : Type 0 where
  pub bounded : (place : ℕ) → place < length axis → IsBetween least greatest (place_value axis place)
