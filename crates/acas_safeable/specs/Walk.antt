-- The cells of a model by their numbers, and what is printed and counted of them.
use Rattle.std.specs.Prelude.{ℕ, ◌+◌, ◌-◌, ◌*◌, ◌/◌, ◌%◌, ◌<◌, ◌&&◌, List, [], ◌∷◌, ◌++◌, length, codes, count_by, if◌then◌else◌}
use Rattle.acas_spec.specs.Model.{ModelData, advisory_at}
use Rattle.acas_base.specs.Advices.{AdvicesData}
use Rattle.acas_cells.specs.Cells.{Cell, below, cell_at}
use Rattle.acas_safeable.specs.Outlooks.{is_looked_at}
use Rattle.acas_safeable.specs.SafeableText.{is_near, is_open, is_safeable, number_field}
use Rattle.acas_safeable.specs.declared.counts.SafeCounts.{SafeCounts}
use Rattle.acas_safeable.specs.declared.outlook.Outlook.{Outlook}
use Rattle.acas_safeable.specs.declared.outlook.Outlook.TheVariants.{Safeable, Unshown}

-- how many cells a model has
abbrev pub cell_count : ModelData → ℕ
cell_count m = m.grid.horizon * m.grid.advisories * (length m.grid.h - 1) * (length m.grid.v0 - 1) * (length m.grid.v1 - 1)

-- the row of a cell by its number: the cells that differ from it in the place on the axis of intruder rate alone
abbrev pub row_of : ModelData → ℕ → ℕ
row_of m number = number / (length m.grid.v1 - 1)

-- its plane: those that differ in the place on the axis of own rate too
abbrev pub plane_of : ModelData → ℕ → ℕ
plane_of m number = row_of m number / (length m.grid.v0 - 1)

-- its block: those of the same seconds and present advisory
abbrev pub block_of : ModelData → ℕ → ℕ
block_of m number = plane_of m number / (length m.grid.h - 1)

-- the cell of a number
abbrev pub numbered_cell : ModelData → ℕ → Cell
numbered_cell m number =
    cell_at (block_of m number / m.grid.advisories) (block_of m number % m.grid.advisories)
    (plane_of m number % (length m.grid.h - 1)) (row_of m number % (length m.grid.v0 - 1)) (number % (length m.grid.v1 - 1))

-- the cells of the first numbers
abbrev pub cells_below : ModelData → ℕ → List Cell
cells_below m count = below count (λ number. numbered_cell m number ∷ [])

-- how many of some cells there are of each kind
abbrev pub counts_in : ModelData → AdvicesData → (Cell → Outlook) → List Cell → SafeCounts
counts_in m a found cells = record {
  safeable = count_by (λ c. is_looked_at m a c && is_safeable (found c)) cells;
  unshown = count_by (λ c. is_looked_at m a c && is_open (found c)) cells;
  near = count_by (is_near m a) cells;
}

-- the counts of no cell, and how many cells are counted
abbrev pub no_counts : SafeCounts
no_counts = record { safeable = 0; unshown = 0; near = 0 }

abbrev pub total : SafeCounts → ℕ
total counts = counts.safeable + counts.unshown + counts.near

-- the counts with one cell more, of which this is found, and with one near cell more
abbrev pub counted_outlook : SafeCounts → Outlook → SafeCounts
counted_outlook counts outlook = record {
  safeable = counts.safeable + (if is_safeable outlook then 1 else 0);
  unshown = counts.unshown + (if is_open outlook then 1 else 0);
  near = counts.near;
}

abbrev pub counted_near : SafeCounts → SafeCounts
counted_near counts = record { safeable = counts.safeable; unshown = counts.unshown; near = counts.near + 1 }

-- the front of the line of a cell
abbrev pub head_text : ModelData → Cell → List ℕ
head_text m c =
    codes "cell" ++ number_field c.n ++ 32 ∷ (advisory_at m c.present).name
    ++ number_field c.i ++ number_field c.j ++ number_field c.k

-- the advisory that is found, if one is, is one of the model's
abbrev pub IsNamed : ModelData → Outlook → Type 0
IsNamed m (Safeable advisory) = advisory < m.grid.advisories
IsNamed m Unshown = Unit
