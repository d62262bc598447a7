use Rattle.std.proofs.Common.{ℕ, ◌<◌, length, arith}
use Rattle.acas_step_stencils.specs.Stencils.{IsStencilNumbered}
use Rattle.acas_step_stencils.specs.declared.column_stencils.ColumnStencil.{ColumnStencil}
use Rattle.acas_means.proofs.Written.{each_written}
use Rattle.acas_step_stencils.proofs.column_stencils.fill_stencils.Goals as goal

pub loop-number-preserved : goal.loop-number-preserved
loop-number-preserved c = λ n d here.
    let inside : c.loop-number.number < length c.loop-number.stencils = omega arith in
    each_written (λ (k : ℕ) (s : ColumnStencil). IsStencilNumbered c.args.model.now (record { h = 1; v0 = 1; v1 = 1 }) k s)
    c.loop-number.stencils c.loop-number.number c.stencil_at.result d inside (λ k before. c.loop-number.invariant k d before) c.stencil_at.ensures n here
