-- The numbers of a table's entries: layer after layer, each by the numbers of its states.
use Rattle.std.proofs.Common.{◌≡◌, ℕ, ◌+◌, ◌*◌, ◌/◌, ◌%◌, ◌<◌, ◌≤◌, arith}
use Rattle.std.proofs.lemmas.Nat.{div_below, mod_below, div-add-mod'}
use Rattle.acas_spec.specs.Model.{GridData, ModelData, states}
use Rattle.acas_grid.proofs.Vertices.{row_below, some_width}
use Rattle.acas_process.specs.Cost.{IsEntry}
use Rattle.acas_grid.specs.States.{state_present, state_vertex}
use Rattle.acas_means.proofs.NumberedStates.{IsVertex-state_vertex}
use Rattle.acas_accept.specs.GivenTable.{entry_place}
use Rattle.acas_grid.proofs.StateNumbers.{state_present-below}

pub entry_place-below : (g : GridData) (n state : ℕ) → n ≤ g.horizon → state < states g → entry_place g n state < (g.horizon + 1) * states g
entry_place-below g n state seconds inside = row_below (g.horizon + 1) (states g) n state (omega arith) inside

-- a number of an entry is that of a layer and a state
pub record IsPlace (g : GridData) (i : ℕ) : Type 0 where
  pub seconds : i / states g ≤ g.horizon
  pub state : i % states g < states g
  pub is : entry_place g (i / states g) (i % states g) ≡ i

pub is_place : (g : GridData) (i : ℕ) → i < (g.horizon + 1) * states g → IsPlace g i
is_place g i within =
    let width = some_width (g.horizon + 1) (states g) i within in
    let layer = div_below i (states g) (g.horizon + 1) width within in
    record { seconds = omega arith; state = mod_below i (states g) width; is = div-add-mod' i (states g) }

-- a state has a present advisory and a vertex
pub state_entry_is : (m : ModelData) (n state : ℕ) → n ≤ m.grid.horizon → state < states m.grid → IsEntry m n (state_present m.grid state) (state_vertex m.grid state)
state_entry_is m n state seconds inside = record {
  seconds = seconds;
  present = state_present-below m.grid state inside;
  vertex = IsVertex-state_vertex m.grid state inside;
}
