-- Why a list of numbers is no axis, and where a number stands on one.
use Rattle.std.specs.Prelude.{ℕ, ◌+◌, ◌-◌, ◌<◌, ◌≤◌, List, [], ◌∷◌, length, ℤ, int_lt, nat_lt, ◌≤ℤ◌, ◌<ℤ◌, Option, Some, None, Result, Ok, Err, if◌then◌else◌}
use Rattle.std.specs.Int.{int_max, int_min}
use Rattle.acas_units.specs.declared.limits.TheConstants.{LEAST_VERTICES, GREATEST_VERTICES}
use Rattle.acas_spec.specs.Axis.{place_value}
use Rattle.acas_grid.specs.declared.axis.AxisFault.{AxisFault}
use Rattle.acas_grid.specs.declared.axis.AxisFault.TheVariants.{TooShort, TooLong, NotRising}

-- the first place whose number is not above the one before it, where the list begins at a place
abbrev pub first_fall : ℕ → List ℤ → Option ℕ
first_fall place [] = None
first_fall place (a ∷ []) = None
first_fall place (a ∷ b ∷ rest) = if int_lt a b then first_fall (place + 1) (b ∷ rest) else Some (place + 1)

-- the list, unless it falls somewhere
abbrev pub rising_or_fault : List ℤ → Option ℕ → Result (List ℤ) AxisFault
rising_or_fault values None = Ok values
rising_or_fault values (Some place) = Err (NotRising place)

-- the axis of these numbers, which are neither too few nor too many, and rise
unfoldable pub axis_of : List ℤ → Result (List ℤ) AxisFault
axis_of values =
    if nat_lt (length values) LEAST_VERTICES then Err TooShort
    else if nat_lt GREATEST_VERTICES (length values) then Err TooLong
    else rising_or_fault values (first_fall 0 values)

-- the number after a place is the first that is not above the one before it
pub record IsFirstFall (values : List ℤ) (before : ℕ) : Type 0 where
  pub inside : before + 1 < length values
  pub falls : place_value values (before + 1) ≤ℤ place_value values before
  pub rising : (place : ℕ) → place < before → place_value values place <ℤ place_value values (place + 1)

-- the two ends of an axis
abbrev pub first_value : List ℤ → ℤ
first_value axis = place_value axis 0

abbrev pub last_value : List ℤ → ℤ
last_value axis = place_value axis (length axis - 1)

-- a number is between the ends of an axis
pub record IsBetweenEnds (axis : List ℤ) (x : ℤ) : Type 0 where
  pub first : first_value axis ≤ℤ x
  pub last : x ≤ℤ last_value axis

-- the nearest number between the ends of an axis
abbrev pub clamp_to : List ℤ → ℤ → ℤ
clamp_to axis x = int_max (first_value axis) (int_min x (last_value axis))

-- The cell from a place to the next holds a number, and of the places at or below the number, the last left out, it
-- begins at the greatest.
pub record IsCell (axis : List ℤ) (place : ℕ) (x : ℤ) : Type 0 where
  pub before_last : place + 1 < length axis
  pub lower : place_value axis place ≤ℤ x
  pub upper : x ≤ℤ place_value axis (place + 1)
  pub greatest : (other : ℕ) → other + 1 < length axis → place_value axis other ≤ℤ x → other ≤ place
