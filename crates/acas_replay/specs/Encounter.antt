-- An encounter of two aircraft: how it starts, and how each of them accelerates from second to second.
use Rattle.std.specs.Prelude.{◌≡◌, ℕ, ◌<◌, ◌≤◌, List, length, ℤ, pos, ◌*ℤ◌}
use Rattle.acas_units.specs.declared.limits.TheConstants.{LEAST_CLOSING, GREATEST_CLOSING, LEAST_ALTITUDE, GREATEST_ALTITUDE, LEAST_RATE, GREATEST_RATE, LEAST_SECONDS, GREATEST_SECONDS}
use Rattle.acas_units.specs.declared.ticks.TheConstants.{TICKS_PER_FOOT}
use Rattle.acas_spec.specs.Axis.{IsBetween, IsWithin, place_value}
use Rattle.acas_spec.specs.Model.{ModelData}
use Rattle.acas_replay.specs.declared.limits.TheConstants.{LEAST_START_RANGE, GREATEST_START_RANGE, LEAST_ACCELERATION, GREATEST_ACCELERATION}
use Rattle.acas_replay.specs.declared.start.Start.{Start}
use Rattle.acas_replay.specs.declared.encounter.Encounter.TheInside.{Inside}

-- the start, and the own and the intruder's acceleration in each second, in ft/min per second
pub record EncounterData : Type 0 where
  pub start : Start
  pub own : List ℤ
  pub intruder : List ℤ

-- the fields of `Encounter`
abbrev pub encounter_view : Inside → EncounterData
encounter_view e = record { start = e.start; own = e.own.items; intruder = e.intruder.items }

-- how many seconds an encounter has
abbrev pub seconds : EncounterData → ℕ
seconds e = length e.own

-- the own and the intruder's acceleration in a second
abbrev pub own_at : EncounterData → ℕ → ℤ
own_at e second = place_value e.own second

abbrev pub intruder_at : EncounterData → ℕ → ℤ
intruder_at e second = place_value e.intruder second

-- a start within its limits, with its altitude in ticks
pub record IsStart (s : Start) : Type 0 where
  pub range : IsBetween LEAST_START_RANGE GREATEST_START_RANGE s.range
  pub closing : IsBetween (pos LEAST_CLOSING) (pos GREATEST_CLOSING) s.closing
  pub altitude : IsBetween (pos TICKS_PER_FOOT *ℤ LEAST_ALTITUDE) (pos TICKS_PER_FOOT *ℤ GREATEST_ALTITUDE) s.altitude
  pub own : IsBetween LEAST_RATE GREATEST_RATE s.own
  pub intruder : IsBetween LEAST_RATE GREATEST_RATE s.intruder

-- an encounter within its limits: both aircraft have an acceleration in each second, and there are not too many seconds
pub record IsEncounter (e : EncounterData) : Type 0 where
  pub start : IsStart e.start
  pub some : LEAST_SECONDS ≤ seconds e
  pub few : seconds e ≤ GREATEST_SECONDS
  pub paired : length e.intruder ≡ seconds e
  pub own : IsWithin LEAST_ACCELERATION GREATEST_ACCELERATION e.own
  pub intruder : IsWithin LEAST_ACCELERATION GREATEST_ACCELERATION e.intruder

-- the advisory at the start is one of the model's
pub record IsEncounterOf (m : ModelData) (e : EncounterData) : Type 0 where
  pub advisory : e.start.advisory < m.grid.advisories
