use Rattle.std.proofs.lemmas.Grind.{common_steps}
use Rattle.std.proofs.Common.{ℕ, ◌<◌, pos, length, sym, subst, arith}
use Rattle.acas_step_stencils.specs.Stencils.{DivideOffsets}
use Rattle.acas_step_stencils.specs.declared.column_stencils.ColumnStencil.{ColumnStencil}
use Rattle.acas_step_stencils.proofs.column_stencils.count_offsets.Goals as goal

-- the stencil that a list holds where it ends
abbrev none : ColumnStencil
none = record { column = 0; v0 = 0; v1 = 0; climb = pos 0 }

pub counted-requires-clause-offsets : goal.counted-requires-clause-offsets
counted-requires-clause-offsets c =
    let n : ℕ = c.loop-number.number in
    let inside : n < length c.args.stencils.now = omega (arith, c.loop-number.invariant.long) in
    subst (λ (s : ColumnStencil). DivideOffsets c.args.units s) (sym (c.loop-number.invariant.rest n none (omega arith))) (c.requires.offsets n none inside)

pub counted-requires-clause-small : goal.counted-requires-clause-small
counted-requires-clause-small c = grind (arith, common_steps)

pub loop-number-preserved : goal.loop-number-preserved
loop-number-preserved c = grind (arith, common_steps)
