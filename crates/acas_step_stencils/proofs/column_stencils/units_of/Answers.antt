use Rattle.std.proofs.Common.{pos}
use Rattle.acas_step_stencils.proofs.GapLaws.{grid_finer}
use Rattle.acas_step_stencils.proofs.UnitLaws.{offsets_more}
use Rattle.acas_step_stencils.proofs.column_stencils.units_of.Goals as goal

pub loop-stencil-preserved : goal.loop-stencil-preserved
loop-stencil-preserved c =
    let next = c.units_with-units in
    let so = c.loop-stencil.invariant in
    record {
      some = next.ensures.some;
      gaps = grid_finer c.args.grid.now next.result c.loop-stencil.units next.ensures.units so.gaps;
      offsets = offsets_more next.result c.loop-stencil.units c.args.stencils.now c.loop-stencil.stencil-index (record { column = 0; v0 = 0; v1 = 0; climb = pos 0 })
          c.loop-stencil-test.true next.ensures.units so.offsets next.ensures.offsets;
    }
