-- How many decisions prepare cells, from a source of rulings.
use Rattle.std.specs.Prelude.{◌≡◌, ℕ, ◌+◌}
use Rattle.acas_spec.specs.Model.{ModelData}
use Rattle.acas_base.specs.Advices.{AdvicesData}
use Rattle.acas_cells.specs.DecisionCounts.{IsSumBelow}

-- so many decisions prepare the cells of n seconds, where each present advisory takes its own number
abbrev pub IsLayerPrepared : (ModelData → AdvicesData → ℕ → ℕ → ℕ → Type 0) → ModelData → AdvicesData → ℕ → ℕ → Type 0
IsLayerPrepared takes m a n number = IsSumBelow (λ present part. takes m a n present part) m.grid.advisories number

-- so many prepare all cells
abbrev pub ArePrepared : (ModelData → AdvicesData → ℕ → ℕ → ℕ → Type 0) → ModelData → AdvicesData → ℕ → Type 0
ArePrepared takes m a number = IsSumBelow (λ n layer. IsLayerPrepared takes m a n layer) m.grid.horizon number

-- a count rose by the decisions that prepare all cells
abbrev pub CountsPrepared : (ModelData → AdvicesData → ℕ → ℕ → ℕ → Type 0) → ModelData → AdvicesData → ℕ → ℕ → Type 0
CountsPrepared takes m a old new = (number : ℕ) × ArePrepared takes m a number × (new ≡ old + number)
