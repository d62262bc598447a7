use Rattle.std.proofs.Common.{◌≡◌, ℕ, ◌<◌, ◌≤◌, length, get_or}
use Rattle.acas_step_stencils.specs.Stencils.{IsCountedIn}
use Rattle.acas_step_stencils.specs.declared.column_stencils.ColumnStencil.{ColumnStencil}
use Rattle.acas_step_stencils.proofs.column_stencils.count_offsets.Given as goal

abbrev pub invariant-loop-number : goal.invariant-loop-number
invariant-loop-number l = record {
  long : length l.stencils ≡ length l.fn.stencils;
  counted : (n : ℕ) (d : ColumnStencil) → n < l.number → IsCountedIn l.units (get_or l.fn.stencils n d) (get_or l.stencils n d);
  rest : (n : ℕ) (d : ColumnStencil) → l.number ≤ n → get_or l.stencils n d ≡ get_or l.fn.stencils n d;
}
