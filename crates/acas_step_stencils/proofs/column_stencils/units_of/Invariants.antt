use Rattle.std.proofs.Common.{ℕ, ◌<◌, get_or}
use Rattle.acas_step_stencils.specs.Units.{AreUnits, DivideGaps}
use Rattle.acas_step_stencils.specs.Stencils.{DivideOffsets}
use Rattle.acas_step_stencils.specs.declared.column_stencils.ColumnStencil.{ColumnStencil}
use Rattle.acas_step_stencils.proofs.column_stencils.units_of.Given as goal

abbrev pub invariant-loop-stencil : goal.invariant-loop-stencil
invariant-loop-stencil l = record {
  some : AreUnits l.units;
  gaps : DivideGaps l.grid l.units;
  offsets : (n : ℕ) (d : ColumnStencil) → n < l.stencil-index → DivideOffsets l.units (get_or l.stencils n d);
}
