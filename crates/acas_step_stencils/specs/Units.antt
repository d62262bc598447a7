-- Units of the axes of a grid, and lengths on the axes in them.
use Rattle.std.specs.Prelude.{◌≡◌, ℕ, ◌+◌, ◌*◌, ◌<◌, ◌≤◌, ℤ, List, length}
use Rattle.std.specs.Int.{◌∣◌}
use Rattle.acas_spec.specs.Axis.{place_value}
use Rattle.acas_spec.specs.Model.{GridData}
use Rattle.acas_grid.specs.Axis.{IsCell}
use Rattle.acas_process.specs.Axis.{distance, gap}
use Rattle.acas_step_stencils.specs.declared.units.Units.{Units}

-- units are above 0
pub record AreUnits (u : Units) : Type 0 where
  pub h : 0 < u.h
  pub v0 : 0 < u.v0
  pub v1 : 0 < u.v1

-- a unit divides each gap of an axis
pub record DividesGaps (axis : List ℤ) (unit : ℕ) : Type 0 where
  pub each : (k : ℕ) → k + 1 < length axis → unit ∣ gap axis k

-- units divide the gaps of the axes of a grid
pub record DivideGaps (g : GridData) (u : Units) : Type 0 where
  pub h : DividesGaps g.h u.h
  pub v0 : DividesGaps g.v0 u.v0
  pub v1 : DividesGaps g.v1 u.v1

-- units divide other units
pub record DivideUnits (u w : Units) : Type 0 where
  pub h : u.h ∣ w.h
  pub v0 : u.v0 ∣ w.v0
  pub v1 : u.v1 ∣ w.v1

-- no gap of an axis is more than so much
pub record AreGapsWithin (axis : List ℤ) (most : ℕ) : Type 0 where
  pub each : (k : ℕ) → k + 1 < length axis → gap axis k ≤ most

-- the gap from a place of an axis to the next in a unit; at the last place it is any number above 0
pub record IsGapIn (axis : List ℤ) (unit place units : ℕ) : Type 0 where
  pub some : 0 < units
  pub whole : place + 1 < length axis → unit * units ≡ gap axis place

-- a number is in the cell that begins at a place of an axis, so many units above that place
pub record IsAbove (axis : List ℤ) (unit : ℕ) (x : ℤ) (place offset : ℕ) : Type 0 where
  pub cell : IsCell axis place x
  pub above : unit * offset ≡ distance (place_value axis place) x
