-- What an audit says of a replayed state.
use Rattle.std.specs.Prelude.{◌≡◌, ℕ, ℤ, pos, ◌*ℤ◌, ◌≤ℤ◌, [], ◌∷◌}
use Rattle.std.specs.List.{Contains}
use Rattle.acas_spec.specs.Model.{ModelData}
use Rattle.acas_grid.specs.Grid as grid
use Rattle.acas_base.specs.Advices.{AdvicesData}
use Rattle.acas_flight.specs.Response.{climb}
use Rattle.acas_flight.specs.State.{IsInCell, IsInside, State, closing_speeds}
use Rattle.acas_cells.specs.Corners.{advisory_cells}
use Rattle.acas_cells.specs.declared.name.CellName.{CellName}
use Rattle.acas_replay.specs.declared.state.EncounterState.{EncounterState}

-- the state as one of a flight, over q
abbrev pub flight_state : ℕ → EncounterState → State
flight_state q s = record {
  range = s.range *ℤ pos q;
  closing = s.closing *ℤ pos q;
  altitude = s.point.h *ℤ pos q;
  own = s.point.v0 *ℤ pos q;
  intruder = s.point.v1 *ℤ pos q;
}

-- the own climb in the first a of q parts of a second with this acceleration, as that of a response
abbrev pub own_climb : EncounterState → ℤ → ℕ → ℕ → ℤ
own_climb s own q a = climb ((flight_state q s).own *ℤ pos q) (record { duration = a; acceleration = own *ℤ pos q } ∷ [])

-- a state that cells may hold: the intruder is ahead, at a closing speed of the model, and the point is inside the grid
pub record IsOfCells (m : ModelData) (s : EncounterState) : Type 0 where
  pub ahead : pos 0 ≤ℤ s.range
  pub speed : IsInside 1 (closing_speeds m) s.closing
  pub point : grid.IsInside m.grid s.point

-- the state is in a cell that is one of the advisory cells under the advice and its present advisory
pub record IsAudited (m : ModelData) (a : AdvicesData) (s : EncounterState) (advice : ℕ) : Type 0 where
  pub name : CellName
  pub present : name.present ≡ s.present
  pub advice_is : name.advice ≡ advice
  pub holds : IsInCell m name.n name.i name.j name.k 1 (flight_state 1 s)
  pub ruled_on : Contains (advisory_cells m a) name
