-- How an encounter starts.
use Rattle.std.specs.Prelude.{ℕ, List, [], codes, ℤ, pos, ◌*ℤ◌, Result, Ok}
use Rattle.toml.specs.Data.{Members}
use Rattle.acas_units.specs.declared.limits.TheConstants.{LEAST_CLOSING, GREATEST_CLOSING, LEAST_ALTITUDE, GREATEST_ALTITUDE, LEAST_RATE, GREATEST_RATE}
use Rattle.acas_units.specs.declared.ticks.TheConstants.{TICKS_PER_FOOT}
use Rattle.acas_spec.specs.Model.{ModelData}
use Rattle.acas_spec.specs.Steps.{◌>>=◌}
use Rattle.acas_doc.specs.Keys.{whole_at}
use Rattle.acas_doc.specs.declared.input_fault.InputFault.{InputFault}
use Rattle.acas_doc.specs.Input.{in_doc}
use Rattle.acas_model.specs.Named.{advisory_at}
use Rattle.acas_replay.specs.declared.limits.TheConstants.{LEAST_START_RANGE, GREATEST_START_RANGE}
use Rattle.acas_replay.specs.declared.start.Start.{Start}

-- a whole number at a key of the document
unfoldable pub number_at : Members → List ℕ → ℤ → ℤ → Result ℤ InputFault
number_at doc key least greatest = in_doc (whole_at doc [] key least greatest)

-- the start of these numbers, with the altitude in feet
abbrev pub start_with : ℕ → ℤ → ℤ → ℤ → ℤ → ℤ → Start
start_with advisory range closing feet own intruder = record {
  advisory = advisory;
  range = range;
  closing = closing;
  altitude = pos TICKS_PER_FOOT *ℤ feet;
  own = own;
  intruder = intruder;
}

-- the advisory, which has place 0, and then a number a key
unfoldable pub start_of : ModelData → Members → Result Start InputFault
start_of m doc = do
  advisory ← advisory_at m doc [] 0
  range ← number_at doc (codes "range") LEAST_START_RANGE GREATEST_START_RANGE
  closing ← number_at doc (codes "closing") (pos LEAST_CLOSING) (pos GREATEST_CLOSING)
  feet ← number_at doc (codes "altitude") LEAST_ALTITUDE GREATEST_ALTITUDE
  own ← number_at doc (codes "own") LEAST_RATE GREATEST_RATE
  intruder ← number_at doc (codes "intruder") LEAST_RATE GREATEST_RATE
  Ok (start_with advisory range closing feet own intruder)
