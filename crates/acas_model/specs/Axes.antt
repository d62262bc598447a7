-- The table `grid`: the three axes.
use Rattle.std.specs.Prelude.{ℕ, ◌-◌, ◌^◌, List, [], length, codes, ℤ, pos, ◌*ℤ◌, Result, Ok}
use Rattle.toml.specs.Data.{Data, Members}
use Rattle.acas_units.specs.declared.limits.TheConstants.{LEAST_ALTITUDE, GREATEST_ALTITUDE, LEAST_RATE, GREATEST_RATE}
use Rattle.acas_units.specs.declared.ticks.TheConstants.{TICKS_PER_FOOT}
use Rattle.acas_spec.specs.Steps.{◌>>=◌, fault_as, each}
use Rattle.acas_doc.specs.Keys.{list_at, whole_item}
use Rattle.acas_doc.specs.Paths.{key_path}
use Rattle.acas_grid.specs.Axis.{axis_of}
use Rattle.acas_model.specs.declared.axes.Axes.{Axes}
use Rattle.acas_model.specs.declared.fault.AxisName.{AxisName}
use Rattle.acas_model.specs.declared.fault.AxisName.TheVariants.{Altitude, OwnRate, IntruderRate}
use Rattle.acas_model.specs.declared.fault.ModelFault.{ModelFault}
use Rattle.acas_model.specs.declared.fault.ModelFault.TheVariants.{Axis}
use Rattle.acas_model.specs.Document.{in_doc, closed_table}

-- the least and the greatest number on an axis of the file, in feet or ft/min
abbrev pub least_on : AxisName → ℤ
least_on Altitude = LEAST_ALTITUDE
least_on OwnRate = LEAST_RATE
least_on IntruderRate = LEAST_RATE

abbrev pub greatest_on : AxisName → ℤ
greatest_on Altitude = GREATEST_ALTITUDE
greatest_on OwnRate = GREATEST_RATE
greatest_on IntruderRate = GREATEST_RATE

-- what a number of the file is in the model: altitudes are in feet and then in ticks, rates stay in ft/min
abbrev pub in_model : AxisName → ℤ → ℤ
in_model Altitude feet = pos TICKS_PER_FOOT *ℤ feet
in_model OwnRate rate = rate
in_model IntruderRate rate = rate

-- a whole number within the limits of the axis, as it is in the model
unfoldable pub axis_item : AxisName → List ℕ → ℕ → Data → Result ℤ ModelFault
axis_item name path place d = do
  number ← in_doc (whole_item path place (least_on name) (greatest_on name) d)
  Ok (in_model name number)

-- each item of a list is such a number
unfoldable pub axis_items : AxisName → List ℕ → List Data → Result (List ℤ) ModelFault
axis_items name path ds = each (λ before d. axis_item name path (length before) d) [] ds

-- the list at a key of `grid`, of any length; then its items; then that they make an axis
unfoldable pub axis_at : Members → List ℕ → AxisName → Result (List ℤ) ModelFault
axis_at grid key name = do
  items ← in_doc (list_at grid (codes "grid") key 0 (2 ^ 32 - 1))
  values ← axis_items name (key_path (codes "grid") key) items
  fault_as (Axis name) (axis_of values)

-- `grid` is a table that has no other keys
unfoldable pub grid_table : Members → Result Members ModelFault
grid_table doc = closed_table doc (codes "grid") (codes "altitude own_rate intruder_rate")

-- `grid`, then each axis in turn
unfoldable pub axes_of : Members → Result Axes ModelFault
axes_of doc = do
  grid ← grid_table doc
  h ← axis_at grid (codes "altitude") Altitude
  v0 ← axis_at grid (codes "own_rate") OwnRate
  v1 ← axis_at grid (codes "intruder_rate") IntruderRate
  Ok (record { h = h; v0 = v0; v1 = v1 })
