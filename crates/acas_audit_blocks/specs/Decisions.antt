-- How many decisions rule on all cells.
use Rattle.std.specs.Prelude.{◌≡◌, ℕ, zero, suc, ◌+◌, true, false}
use Rattle.acas_spec.specs.Model.{ModelData}
use Rattle.acas_base.specs.Advices.{AdvicesData}
use Rattle.acas_cells.specs.Cells.{cell_at}
use Rattle.acas_cells.specs.Corners.{is_at_corner}
use Rattle.acas_audit_blocks.specs.BlockStates.{IsEndangeredBlock}
use Rattle.acas_cells.specs.Blocks.{IsInBlock, all_cells, first_half, is_one_cell, second_half}
use Rattle.acas_cells.specs.DecisionCounts.{IsSumBelow}
use Rattle.acas_cells.specs.declared.block.Block.{Block}

-- the advice is tabled at a corner of some cell of the block
abbrev pub IsTabledIn : ModelData → AdvicesData → ℕ → ℕ → ℕ → Block → Type 0
IsTabledIn m a n present advice b = (i : ℕ) × (j : ℕ) × (k : ℕ) × IsInBlock b i j k × (is_at_corner m a (cell_at n present i j k) advice ≡ true)

-- The number of decisions of a block under an advice. It is 0 where the advice is tabled at no corner of its cells, and 1 where none
-- of them is endangered or there is one cell. Otherwise it is 1 and the numbers of its two halves.
pub data IsDecidedBy (m : ModelData) (a : AdvicesData) (n present advice : ℕ) : Block → ℕ → Type 0 where
  untabled : (b : Block) → ¬ IsTabledIn m a n present advice b → IsDecidedBy m a n present advice b 0
  clear : (b : Block) → IsTabledIn m a n present advice b → ¬ IsEndangeredBlock m n advice b → IsDecidedBy m a n present advice b 1
  one_cell : (b : Block) → IsTabledIn m a n present advice b → is_one_cell b ≡ true → IsDecidedBy m a n present advice b 1
  halved : (b : Block) (first second : ℕ) → IsTabledIn m a n present advice b → IsEndangeredBlock m n advice b → is_one_cell b ≡ false →
      IsDecidedBy m a n present advice (first_half b) first → IsDecidedBy m a n present advice (second_half b) second →
      IsDecidedBy m a n present advice b (1 + first + second)

-- the number of decisions under an advice, for the block of all cells; for clear of conflict there is none
abbrev pub AreDecisionsUnder : ModelData → AdvicesData → ℕ → ℕ → ℕ → ℕ → Type 0
AreDecisionsUnder m a n present zero number = number ≡ 0
AreDecisionsUnder m a n present (suc other) number = IsDecidedBy m a n present (suc other) (all_cells m) number

-- that of the cells of n seconds and a present advisory, under all advices
abbrev pub AreDecisionsOf : ModelData → AdvicesData → ℕ → ℕ → ℕ → Type 0
AreDecisionsOf m a n present number = IsSumBelow (AreDecisionsUnder m a n present) m.grid.advisories number

-- the whole number of decisions of an audit
abbrev pub AreAuditsDecisions : ModelData → AdvicesData → ℕ → Type 0
AreAuditsDecisions m a number = IsSumBelow (λ n layer. IsSumBelow (λ present part. AreDecisionsOf m a n present part) m.grid.advisories layer) m.grid.horizon number
