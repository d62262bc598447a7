-- A table of the list `box`: one box.
use Rattle.std.specs.Prelude.{ℕ, List, codes, pos, ◌+ℤ◌, ◌*ℤ◌, int_le, if◌then◌else◌, Result, Ok, Err}
use Rattle.toml.specs.Data.{Data, Members}
use Rattle.acas_units.specs.declared.limits.TheConstants.{WINDOW_SECONDS}
use Rattle.acas_spec.specs.Model.{ModelData}
use Rattle.acas_spec.specs.Steps.{◌>>=◌, ◌>>◌}
use Rattle.acas_doc.specs.Keys.{table_item}
use Rattle.acas_doc.specs.Known.{only_known}
use Rattle.acas_doc.specs.Paths.{item_path}
use Rattle.acas_flight.specs.State.{Interval}
use Rattle.acas_rulings.specs.Boxes.{AuditedBox}
use Rattle.acas_doc.specs.declared.input_fault.InputFault.{InputFault}
use Rattle.acas_doc.specs.declared.input_fault.InputFault.TheVariants.{Window}
use Rattle.acas_doc.specs.Input.{in_doc}
use Rattle.acas_model.specs.Named.{advisory_at}
use Rattle.acas_boxes.specs.Spans.{ranges_at, closings_at, altitudes_at, rates_at}

-- at the least closing speed, the greatest range and the radius are flown within the window
unfoldable pub window : ModelData → ℕ → Interval → Interval → Result (Unit {0}) InputFault
window m place range closing =
    if int_le (range.greatest +ℤ pos m.radius) (pos WINDOW_SECONDS *ℤ closing.least) then Ok tt else Err (Window place)

-- the box of these parts
abbrev pub box_with : ℕ → Interval → Interval → Interval → Interval → Interval → AuditedBox
box_with advisory range closing altitude own intruder = record {
  advisory = advisory;
  states = record { range = range; closing = closing; altitude = altitude; own = own; intruder = intruder };
}

-- the table of a box: its keys, its advisory, its five spans, and its window
unfoldable pub box_of : ModelData → Members → List ℕ → ℕ → Result AuditedBox InputFault
box_of m table path place = do
  in_doc (only_known path (codes "advisory range closing altitude own intruder") table)
  advisory ← advisory_at m table path place
  range ← ranges_at table path
  closing ← closings_at table path
  altitude ← altitudes_at table path
  own ← rates_at table path (codes "own")
  intruder ← rates_at table path (codes "intruder")
  window m place range closing
  Ok (box_with advisory range closing altitude own intruder)

-- an item of the list is such a table
unfoldable pub box_item : ModelData → ℕ → Data → Result AuditedBox InputFault
box_item m place d = do
  table ← in_doc (table_item (codes "box") place d)
  box_of m table (item_path (codes "box") place) place
