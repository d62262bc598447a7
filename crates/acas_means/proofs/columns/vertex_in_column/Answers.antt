use Rattle.std.proofs.Common.{◌≡◌, ℕ, ◌*◌, ◌+◌, ap, arith}
use Rattle.acas_means.specs.Columns.{columns}
use Rattle.acas_means.proofs.ColumnLaws.{vertex_in-below}
use Rattle.acas_means.proofs.columns.vertex_in_column.Goals as goal

number : (n m k c : ℕ) → n ≡ m → k * n + c ≡ k * m + c
number n m k c same = ap (λ (w : ℕ). k * w + c) same

pub overflow_mul-result : goal.overflow_mul-result
overflow_mul-result c =
    let g = c.args.grid.now in
    omega (arith, c.vertices.ensures.few, c.vertices.ensures.value, number c.column_count.result (columns g) c.args.i c.args.column c.column_count.ensures, vertex_in-below g c.args.column c.args.i c.requires.column c.requires.place)

pub overflow_add-result : goal.overflow_add-result
overflow_add-result c =
    let g = c.args.grid.now in
    omega (arith, c.vertices.ensures.few, c.vertices.ensures.value, number c.column_count.result (columns g) c.args.i c.args.column c.column_count.ensures, vertex_in-below g c.args.column c.args.i c.requires.column c.requires.place)

pub returns-clause-below : goal.returns-clause-below
returns-clause-below c =
    let g = c.args.grid.now in
    omega (arith, number c.column_count.result (columns g) c.args.i c.args.column c.column_count.ensures, vertex_in-below g c.args.column c.args.i c.requires.column c.requires.place)
