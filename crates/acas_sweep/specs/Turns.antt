-- The order in which a layer is written: column by column, and in a column from the lowest altitude up.
use Rattle.std.specs.Prelude.{ℕ, ◌+◌, ◌*◌, ◌/◌, ◌%◌, length}
use Rattle.acas_spec.specs.Model.{GridData}
use Rattle.acas_means.specs.Columns.{columns}

-- how many vertices are written before a vertex: those of the columns before its own, and in its own those at lower altitudes
abbrev pub turn : GridData → ℕ → ℕ
turn g vertex = vertex % columns g * length g.h + vertex / columns g
