-- Counts of decisions: sums of them, and more than the cells of n seconds and a present advisory can take.
use Rattle.std.specs.Prelude.{ℕ, zero, suc, ◌+◌, ◌*◌}
use Rattle.acas_spec.specs.Model.{ModelData}
use Rattle.acas_cells.specs.Blocks.{all_cells, cells_in}

-- the sum of one number for each k below another, where each number is one of its own k
pub data IsSumBelow (IsOf : ℕ → ℕ → Type 0) : ℕ → ℕ → Type 0 where
  no_more : IsSumBelow IsOf zero 0
  one_more : (k sum next : ℕ) → IsSumBelow IsOf k sum → IsOf k next → IsSumBelow IsOf (suc k) (sum + next)

-- more decisions than the cells of n seconds and a present advisory can take: fewer than two a cell under each advice
abbrev pub most_decisions : ModelData → ℕ
most_decisions m = m.grid.advisories * (2 * cells_in (all_cells m))
