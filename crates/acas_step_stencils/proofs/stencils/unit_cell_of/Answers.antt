use Rattle.std.proofs.Common.{◌∙◌, arith}
use Rattle.acas_grid.specs.States.{vertex_at}
use Rattle.acas_step.specs.declared.cell.Cell.{Cell}
use Rattle.acas_step_stencils.specs.Cells.{IsRoundIn}
use Rattle.acas_step_stencils.proofs.GapLaws.{offset-within}
use Rattle.acas_step_stencils.proofs.UnitLaws.{ends_in-IsEndsIn, known_cell}
use Rattle.acas_step_stencils.proofs.stencils.unit_cell_of.Goals as goal

pub ends_in-requires : goal.ends_in-requires
ends_in-requires c =
    let y = vertex_at c.args.grid.now c.args.stencil.base in
    let is = c.requires.stencil.1 in
    offset-within c.args.grid.now.h c.args.units.h y.i c.args.above.h c.requires.stencil.0.h c.args.stencil.h c.requires.units.h c.requires.above.h is.h

pub ends_in-requires-2 : goal.ends_in-requires-2
ends_in-requires-2 c =
    let y = vertex_at c.args.grid.now c.args.stencil.base in
    let is = c.requires.stencil.1 in
    offset-within c.args.grid.now.v0 c.args.units.v0 y.j c.args.above.v0 c.requires.stencil.0.v0 c.args.stencil.v0 c.requires.units.v0 c.requires.above.v0 is.v0

pub ends_in-requires-3 : goal.ends_in-requires-3
ends_in-requires-3 c =
    let y = vertex_at c.args.grid.now c.args.stencil.base in
    let is = c.requires.stencil.1 in
    offset-within c.args.grid.now.v1 c.args.units.v1 y.k c.args.above.v1 c.requires.stencil.0.v1 c.args.stencil.v1 c.requires.units.v1 c.requires.above.v1 is.v1

pub returns : goal.returns
returns c = λ x is.
    let g = c.args.grid.now in
    let u = c.args.units in
    let s = c.args.stencil in
    let y = vertex_at g s.base in
    let above = c.requires.above in
    let h = c.ends_in in
    let v0 = c.ends_in-2 in
    let v1 = c.ends_in-3 in
    let t : Cell = record { h = h.result; v0 = v0.result; v1 = v1.result } in
    let round : IsRoundIn g u x t = record {
      h = ends_in-IsEndsIn g.h u.h y.i c.args.above.h x.h s.h h.result above.h is.h (h.ensures.cell ∙ c.from.ensures ∙ above.i) h.ensures.lower h.ensures.upper;
      v0 = ends_in-IsEndsIn g.v0 u.v0 y.j c.args.above.v0 x.v0 s.v0 v0.result above.v0 is.v0 (v0.ensures.cell ∙ c.from-2.ensures ∙ above.j) v0.ensures.lower v0.ensures.upper;
      v1 = ends_in-IsEndsIn g.v1 u.v1 y.k c.args.above.v1 x.v1 s.v1 v1.result above.v1 is.v1 (v1.ensures.cell ∙ c.from-3.ensures ∙ above.k) v1.ensures.lower v1.ensures.upper;
    } in
    record {
      round = round;
      known = known_cell g u x s.base c.args.above t c.requires.grid c.requires.units above round (h.ensures.cell ∙ c.from.ensures) (v0.ensures.cell ∙ c.from-2.ensures) (v1.ensures.cell ∙ c.from-3.ensures)
          (omega (arith, h.ensures.lower, h.ensures.upper)) (omega (arith, v0.ensures.lower, v0.ensures.upper)) (omega (arith, v1.ensures.lower, v1.ensures.upper));
    }
