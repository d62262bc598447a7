use Rattle.std.proofs.Common.{◌≡◌, ◌*◌, ◌/◌, ◌%◌, ◌<◌, length, ap, ◌∙◌, arith}
use Rattle.std.proofs.lemmas.Nat.{div-add-mod', div_below}
use Rattle.acas_spec.specs.Model.{GridData}
use Rattle.acas_grid.proofs.Vertices.{some_width}
use Rattle.acas_means.specs.Columns.{columns}
use Rattle.acas_means.proofs.ColumnLaws.{all_columns}
use Rattle.acas_sweep.specs.Turns.{turn}
use Rattle.acas_sweep.proofs.Turns.{turn-vertex_in}
use Rattle.acas_sweep.proofs.order.vertex_after.Goals as goal

pub vertex_in_column-requires-clause-column : goal.vertex_in_column-requires-clause-column
vertex_in_column-requires-clause-column c =
    let g = c.args.grid.now in
    let height : c.len-altitudes.result ≡ length g.h = c.len-altitudes.ensures.value ∙ ap (λ (k : GridData). length k.h) c.grid.view_is in
    let inside : c.args.count < columns g * length g.h = omega (arith, all_columns g, c.requires) in
    rw height (div_below c.args.count (length g.h) (columns g) (some_width (columns g) (length g.h) c.args.count inside) inside)

pub returns-clause-turn : goal.returns-clause-turn
returns-clause-turn c =
    let g = c.args.grid.now in
    let height : c.len-altitudes.result ≡ length g.h = c.len-altitudes.ensures.value ∙ ap (λ (k : GridData). length k.h) c.grid.view_is in
    let inside : c.args.count < columns g * length g.h = omega (arith, all_columns g, c.requires) in
    let column = div_below c.args.count (length g.h) (columns g) (some_width (columns g) (length g.h) c.args.count inside) inside in
    ap (turn g) (rw height at c.vertex_in_column.ensures.value) ∙ turn-vertex_in g (c.args.count / length g.h) (c.args.count % length g.h) column ∙ div-add-mod' c.args.count (length g.h)
