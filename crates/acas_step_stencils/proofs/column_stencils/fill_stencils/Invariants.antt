use Rattle.std.proofs.Common.{ℕ, ◌<◌, get_or}
use Rattle.acas_step_stencils.specs.Stencils.{IsStencilNumbered}
use Rattle.acas_step_stencils.specs.declared.column_stencils.ColumnStencil.{ColumnStencil}
use Rattle.acas_step_stencils.proofs.column_stencils.fill_stencils.Given as goal

abbrev pub invariant-loop-number : goal.invariant-loop-number
invariant-loop-number l = (n : ℕ) (d : ColumnStencil) → n < l.number → IsStencilNumbered l.model (record { h = 1; v0 = 1; v1 = 1 }) n (get_or l.stencils n d)
