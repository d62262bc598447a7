-- Pairs of whole numbers: the intervals of a box.
use Rattle.std.specs.Prelude.{ℕ, List, codes, ℤ, pos, ◌*ℤ◌, Result, Ok}
use Rattle.toml.specs.Data.{Members}
use Rattle.acas_units.specs.declared.limits.TheConstants.{LEAST_BOX_RANGE, GREATEST_BOX_RANGE, LEAST_CLOSING, GREATEST_CLOSING, LEAST_ALTITUDE, GREATEST_ALTITUDE, LEAST_RATE, GREATEST_RATE}
use Rattle.acas_units.specs.declared.ticks.TheConstants.{TICKS_PER_FOOT}
use Rattle.acas_spec.specs.Steps.{◌>>=◌}
use Rattle.acas_doc.specs.Keys.{list_at, whole_item}
use Rattle.acas_doc.specs.Paths.{key_path}
use Rattle.acas_doc.specs.Values.{data_at}
use Rattle.acas_flight.specs.State.{Interval}
use Rattle.acas_doc.specs.declared.input_fault.InputFault.{InputFault}
use Rattle.acas_doc.specs.Input.{in_doc}
use Rattle.acas_boxes.specs.declared.spans.TheConstants.{SPAN_ENDS}

abbrev pub interval : ℤ → ℤ → Interval
interval least greatest = record { least = least; greatest = greatest }

-- a list of two whole numbers, the first from least to greatest, the second from the first to greatest
unfoldable pub span_at : Members → List ℕ → List ℕ → ℤ → ℤ → Result Interval InputFault
span_at table path key least greatest = do
  items ← in_doc (list_at table path key SPAN_ENDS SPAN_ENDS)
  first ← in_doc (whole_item (key_path path key) 0 least greatest (data_at items 0))
  second ← in_doc (whole_item (key_path path key) 1 first greatest (data_at items 1))
  Ok (interval first second)

-- ranges, in ft
unfoldable pub ranges_at : Members → List ℕ → Result Interval InputFault
ranges_at table path = span_at table path (codes "range") LEAST_BOX_RANGE GREATEST_BOX_RANGE

-- closing speeds, in ft/s
unfoldable pub closings_at : Members → List ℕ → Result Interval InputFault
closings_at table path = span_at table path (codes "closing") (pos LEAST_CLOSING) (pos GREATEST_CLOSING)

-- feet in ticks
abbrev pub in_ticks : Interval → Interval
in_ticks feet = interval (pos TICKS_PER_FOOT *ℤ feet.least) (pos TICKS_PER_FOOT *ℤ feet.greatest)

-- altitudes, which are feet in the file and ticks in the box
unfoldable pub altitudes_at : Members → List ℕ → Result Interval InputFault
altitudes_at table path = do
  feet ← span_at table path (codes "altitude") LEAST_ALTITUDE GREATEST_ALTITUDE
  Ok (in_ticks feet)

-- rates, in ft/min
unfoldable pub rates_at : Members → List ℕ → List ℕ → Result Interval InputFault
rates_at table path key = span_at table path key LEAST_RATE GREATEST_RATE
