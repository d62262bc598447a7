-- Blocks of cells, and how one is halved.
use Rattle.std.specs.Prelude.{ℕ, ◌+◌, ◌-◌, ◌*◌, ◌/◌, ◌<◌, ◌≤◌, nat_le, ◌==◌, ◌&&◌, Bool, if◌then◌else◌, length}
use Rattle.acas_spec.specs.Model.{ModelData}
use Rattle.acas_cells.specs.declared.block.Block.{Block}

-- the block has a cell
pub record IsSome (b : Block) : Type 0 where
  pub i : b.i0 < b.i1
  pub j : b.j0 < b.j1
  pub k : b.k0 < b.k1

-- it has, and each of its cells is one of the model's grid
pub record IsBlockOf (m : ModelData) (b : Block) : Type 0 where
  pub some : IsSome b
  pub i : b.i1 < length m.grid.h
  pub j : b.j1 < length m.grid.v0
  pub k : b.k1 < length m.grid.v1

-- the cell whose lower corner has the places i, j, k is in the block
pub record IsInBlock (b : Block) (i j k : ℕ) : Type 0 where
  pub from_i : b.i0 ≤ i
  pub from_j : b.j0 ≤ j
  pub from_k : b.k0 ≤ k
  pub before_i : i < b.i1
  pub before_j : j < b.j1
  pub before_k : k < b.k1

-- ---- halves

-- the block of all cells of a model's grid
abbrev pub all_cells : ModelData → Block
all_cells m = record { i0 = 0; i1 = length m.grid.h - 1; j0 = 0; j1 = length m.grid.v0 - 1; k0 = 0; k1 = length m.grid.v1 - 1 }

-- how many cells a block has along the axis of altitude, that of own rate and that of intruder rate
abbrev pub altitudes : Block → ℕ
altitudes b = b.i1 - b.i0

abbrev pub own_rates : Block → ℕ
own_rates b = b.j1 - b.j0

abbrev pub intruder_rates : Block → ℕ
intruder_rates b = b.k1 - b.k0

-- the block has one cell
abbrev pub is_one_cell : Block → Bool
is_one_cell b = (altitudes b == 1 && own_rates b == 1) && intruder_rates b == 1

-- no axis has more cells than that of altitude
abbrev pub is_highest : Block → Bool
is_highest b = nat_le (own_rates b) (altitudes b) && nat_le (intruder_rates b) (altitudes b)

-- one has, and that of intruder rate has not more than that of own rate
abbrev pub is_wider : Block → Bool
is_wider b = nat_le (intruder_rates b) (own_rates b)

-- The halves of a block, along the axis on which it has the most cells; in a tie that of altitude goes first, and that of own rate
-- before that of intruder rate. Of m cells the first half has m / 2, rounded down.
abbrev pub first_half : Block → Block
first_half b =
    if is_highest b then record b { i1 = b.i0 + altitudes b / 2 }
    else if is_wider b then record b { j1 = b.j0 + own_rates b / 2 }
    else record b { k1 = b.k0 + intruder_rates b / 2 }

abbrev pub second_half : Block → Block
second_half b =
    if is_highest b then record b { i0 = b.i0 + altitudes b / 2 }
    else if is_wider b then record b { j0 = b.j0 + own_rates b / 2 }
    else record b { k0 = b.k0 + intruder_rates b / 2 }

-- how many cells a block has
abbrev pub cells_in : Block → ℕ
cells_in b = altitudes b * own_rates b * intruder_rates b
