-- The cells of a model in order.
use Rattle.std.specs.Prelude.{ℕ, zero, suc, ◌+◌, ◌-◌, ◌<◌, List, [], ◌∷◌, ◌++◌, length}
use Rattle.acas_spec.specs.Model.{ModelData}

-- a cell of n seconds under a present advisory, whose lower corner has the places i, j, k
pub record Cell : Type 0 where
  pub n : ℕ
  pub present : ℕ
  pub i : ℕ
  pub j : ℕ
  pub k : ℕ

abbrev pub cell_at : ℕ → ℕ → ℕ → ℕ → ℕ → Cell
cell_at n present i j k = record { n = n; present = present; i = i; j = j; k = k }

-- the model has such a cell
pub record IsCellOf (m : ModelData) (c : Cell) : Type 0 where
  pub n : c.n < m.grid.horizon
  pub present : c.present < m.grid.advisories
  pub i : c.i + 1 < length m.grid.h
  pub j : c.j + 1 < length m.grid.v0
  pub k : c.k + 1 < length m.grid.v1

-- all of f 0, then all of f 1, up to all of f (n - 1)
abbrev pub below : {A : Type 0} → ℕ → (ℕ → List A) → List A
below zero f = []
below (suc n) f = below n f ++ f n

-- the cells of a model, those of n = 0 first, and so on by the present advisory and each place
abbrev pub row_cells : ModelData → ℕ → ℕ → ℕ → ℕ → List Cell
row_cells m n present i j = below (length m.grid.v1 - 1) (λ k. cell_at n present i j k ∷ [])

abbrev pub plane_cells : ModelData → ℕ → ℕ → ℕ → List Cell
plane_cells m n present i = below (length m.grid.v0 - 1) (λ j. row_cells m n present i j)

abbrev pub block_cells : ModelData → ℕ → ℕ → List Cell
block_cells m n present = below (length m.grid.h - 1) (λ i. plane_cells m n present i)

abbrev pub layer_cells : ModelData → ℕ → List Cell
layer_cells m n = below m.grid.advisories (λ present. block_cells m n present)

abbrev pub cells_of : ModelData → List Cell
cells_of m = below m.grid.horizon (λ n. layer_cells m n)
