-- The table that bytes are read as.
use Rattle.std.specs.Prelude.{ℕ, ◌+◌, ◌*◌, List}
use Rattle.acas_spec.specs.Model.{GridData, states}
use Rattle.acas_grid.specs.Grid.{state_number, vertex_number}
use Rattle.acas_spec.specs.declared.place.Vertex.{Vertex}
use Rattle.acas_units.specs.declared.pair.Entry.{Entry}
use Rattle.acas_spec.specs.Table.{Table}
use Rattle.acas_table_text.specs.Shape.{shape_of}
use Rattle.acas_table_text.specs.Text.{entry_at}

-- the number of the entry of a state with n seconds to go
abbrev pub entry_place : GridData → ℕ → ℕ → ℕ
entry_place g n state = n * states g + state

-- the entry with n seconds to go at the vertex x where p is present
abbrev pub given_entry : GridData → List ℕ → ℕ → ℕ → Vertex → Entry
given_entry g bytes n p x =
    entry_at (shape_of g) bytes (entry_place g n (state_number g p (vertex_number g x)))

-- the values and advices of all entries
abbrev pub given_table : GridData → List ℕ → Table
given_table g bytes = record {
  upper = λ n p x. (given_entry g bytes n p x).pair.upper;
  lower = λ n p x. (given_entry g bytes n p x).pair.lower;
  advice = λ n p x. (given_entry g bytes n p x).advice;
}
