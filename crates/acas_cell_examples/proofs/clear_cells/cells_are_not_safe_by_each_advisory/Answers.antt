use Rattle.std.proofs.Common.{[], ◌∷◌, pos, rules}
use Rattle.acas_flight_examples.specs.Numbers.{segment}
use Rattle.acas_safeable.specs.Safe.{EndsInContactLater}
use Rattle.acas_cell_examples.specs.ClearCells.{level_at, near_below}
use Rattle.acas_cell_examples.proofs.clear_cells.cells_are_not_safe_by_each_advisory.Goals as goal

at_once : EndsInContactLater near_below 1 0 0 0 1 1 (level_at (pos 1000)) (segment 1 (pos 0) ∷ []) []
at_once = search rules

pub returns-clause-not_safe : goal.returns-clause-not_safe
returns-clause-not_safe c safe = safe.never 1 (level_at (pos 1000)) (segment 1 (pos 0) ∷ []) [] at_once
