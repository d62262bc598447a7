use Rattle.std.proofs.Common.{ℕ, ◌<◌, get_or}
use Rattle.acas_grid.specs.States.{vertex_at}
use Rattle.acas_step_stencils.specs.Cells.{IsVertexCell}
use Rattle.acas_step_stencils.specs.declared.vertex_cells.VertexCell.{VertexCell}
use Rattle.acas_step_stencils.proofs.vertex_cells.fill_cells.Given as goal

abbrev pub invariant-loop-number : goal.invariant-loop-number
invariant-loop-number l = (n : ℕ) (d : VertexCell) → n < l.number → IsVertexCell l.grid l.units (vertex_at l.grid n) (get_or l.cells n d)
