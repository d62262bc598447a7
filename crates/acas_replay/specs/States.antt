-- The states of an encounter, second by second.
use Rattle.std.specs.Prelude.{ℕ, ℤ, ◌-ℤ◌}
use Rattle.acas_replay.specs.Encounter.{EncounterData}
use Rattle.acas_process.specs.Step.{after_second}
use Rattle.acas_replay.specs.declared.second.Second.{Second}
use Rattle.acas_replay.specs.declared.state.EncounterState.{EncounterState}

-- the state at which an encounter starts
abbrev pub start_of : EncounterData → EncounterState
start_of e = record {
  present = e.start.advisory;
  range = e.start.range;
  closing = e.start.closing;
  point = record { h = e.start.altitude; v0 = e.start.own; v1 = e.start.intruder };
}

-- the second that begins at a state, with the own and the intruder's acceleration
abbrev pub second_from : EncounterState → ℤ → ℤ → Second
second_from s own intruder = record {
  range = s.range;
  closing = s.closing;
  altitude = s.point.h;
  rate = s.point.v1 -ℤ s.point.v0;
  change = intruder -ℤ own;
}

-- the state at its end: the advice that was issued is present, the range has closed, and both rates have changed evenly; nothing is
-- clamped
abbrev pub state_after : EncounterState → ℕ → ℤ → ℤ → EncounterState
state_after s advice own intruder = record {
  present = advice;
  range = s.range -ℤ s.closing;
  closing = s.closing;
  point = after_second s.point own intruder;
}
