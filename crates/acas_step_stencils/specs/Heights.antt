-- How far the altitudes of a grid are above the first one, in a unit, and where a climb leads among these heights.
use Rattle.std.specs.Prelude.{◌≡◌, ℕ, ◌+◌, ◌-◌, ◌*◌, ◌<◌, ◌≤◌, ℤ, pos, ◌+ℤ◌, ◌*ℤ◌, unsigned_abs, List, length, get_or}
use Rattle.std.specs.Int.{int_max, int_min}
use Rattle.acas_spec.specs.Axis.{place_value}
use Rattle.acas_process.specs.Axis.{distance}
use Rattle.acas_step_stencils.specs.declared.heights.ClimbInGaps.{ClimbInGaps}
use Rattle.acas_step_stencils.specs.declared.heights.HeightPlace.{HeightPlace}

-- how far the places of an axis are above the first one, in a unit
pub record AreHeights (axis : List ℤ) (unit : ℕ) (heights : List ℕ) : Type 0 where
  pub count : length heights ≡ length axis
  pub each : (k : ℕ) → k < length axis
      → unit * get_or heights k 0 ≡ distance (place_value axis 0) (place_value axis k)

-- the cell from a place to the next holds a height, and it is below the next one, but for the last
pub record IsHeightCell (heights : List ℕ) (place height : ℕ) : Type 0 where
  pub before_last : place + 1 < length heights
  pub lower : get_or heights place 0 ≤ height
  pub upper : height ≤ get_or heights (place + 1) 0
  pub next : place + 2 < length heights → height < get_or heights (place + 1) 0

-- the height after a climb from a place, or that of the nearer end
abbrev pub height_led : List ℕ → ℕ → ℤ → ℤ
height_led heights i climb =
    let last = get_or heights (length heights - 1) 0 in
    int_max (pos 0) (int_min (pos (get_or heights i 0) +ℤ climb) (pos last))

-- the height x is the one after a climb from the place i, in the cell from a place on and so far above it
pub record IsLedTo (heights : List ℕ) (i : ℕ) (climb : ℤ) (x : ℕ) (p : HeightPlace) : Type 0 where
  pub value : pos x ≡ height_led heights i climb
  pub cell : IsHeightCell heights p.place x
  pub above : p.offset + get_or heights p.place 0 ≡ x

-- where a gap is above 0, the heights are 0 and so many such gaps
pub record IsEvenGap (heights : List ℕ) (gap : ℕ) : Type 0 where
  pub each : 0 < gap → (k : ℕ) → k < length heights → get_or heights k 0 ≡ k * gap

-- where a gap is above 0, a climb is so many gaps and a rest below one
pub record IsInGaps (gap : ℕ) (climb : ℤ) (r : ClimbInGaps) : Type 0 where
  pub value : 0 < gap → pos gap *ℤ r.gaps +ℤ pos r.rest ≡ climb
  pub rest : 0 < gap → r.rest < gap
  pub small : unsigned_abs r.gaps ≤ 4_000_000
