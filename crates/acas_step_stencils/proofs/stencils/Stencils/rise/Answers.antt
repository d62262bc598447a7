use Rattle.std.proofs.Common.{◌≡◌, ℕ, ◌<◌, to_z, of_z, w32, refl, subst, arith}
use Rattle.std.proofs.lemmas.Int.{ints}
use Rattle.acas_spec.specs.Limits.{IsGrid}
use Rattle.acas_spec.specs.Model.{GridData, vertices}
use Rattle.acas_means.specs.Columns.{columns}
use Rattle.acas_means.proofs.ColumnLaws.{vertex_in-below}
use Rattle.acas_step_stencils.specs.Heights.{IsInGaps}
use Rattle.acas_step_stencils.proofs.ColumnCells.{vertex_cell-read}
use Rattle.acas_step_stencils.proofs.stencils.Stencils.rise.Goals as goal

-- the lowest vertex of a column has its number
lowest : (g : GridData) (column : ℕ) → IsGrid g → column < columns g → column < vertices g
lowest g column valid inside = omega (arith, vertex_in-below g column 0 inside (omega (arith, valid.altitudes.at_least)))

pub index-requires : goal.index-requires
index-requires c =
    let led = c.in_column-led in
    omega (arith, lowest c.args.model.now.grid led.result.column c.grid.ensures.valid.grid led.ensures.column, c.requires.usable.stencils.cells.count)

pub returns : goal.returns
returns c =
    let g : GridData = c.args.model.now.grid in
    let all = c.args.self.now in
    let led = c.in_column-led in
    let climb = led.result.climb in
    let fits : to_z w32 (of_z w32 climb) ≡ climb = omega (arith, ints, led.ensures.small) in
    let above = c.index.result.now in
    let there = lowest g led.result.column c.grid.ensures.valid.grid led.ensures.column in
    record {
      led = led.ensures;
      climb = subst (λ z. IsInGaps all.even z c.climb_in_gaps.result) fits c.climb_in_gaps.ensures;
      divisor = record { above = (above, vertex_cell-read g all.units all.cells.items led.result.column above c.requires.usable.stencils.cells there c.index.ensures, refl) };
    }
