use Rattle.std.proofs.Common.{ℕ, ◌<◌, length, arith}
use Rattle.std.proofs.lemmas.Grind.{common_steps}
use Rattle.acas_grid.specs.States.{vertex_at}
use Rattle.acas_step_stencils.specs.Cells.{IsVertexCell}
use Rattle.acas_step_stencils.specs.declared.vertex_cells.VertexCell.{VertexCell}
use Rattle.acas_means.proofs.Written.{each_written}
use Rattle.acas_step_stencils.proofs.vertex_cells.fill_cells.Goals as goal

pub loop-number-preserved : goal.loop-number-preserved
loop-number-preserved c = λ n d here.
    let inside : c.loop-number.number < length c.loop-number.cells = omega arith in
    each_written (λ (k : ℕ) (s : VertexCell). IsVertexCell c.args.grid.now c.args.units (vertex_at c.args.grid.now k) s)
    c.loop-number.cells c.loop-number.number c.cell_above.result d inside (λ k before. c.loop-number.invariant k d before) c.cell_above.ensures n here

pub returns : goal.returns
returns c = grind (arith, common_steps)
