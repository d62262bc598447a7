use Rattle.std.proofs.Common.{ap, sym, subst}
use Rattle.acas_spec.specs.Model.{GridData}
use Rattle.acas_spec.specs.declared.place.Vertex.{Vertex}
use Rattle.acas_step.specs.Ends.{IsRound}
use Rattle.acas_step.proofs.CornerLaws.{fits_grid}
use Rattle.acas_step_stencils.proofs.GapLaws.{above-same}
use Rattle.acas_step_stencils.proofs.stencils.cell_of_stencil.Goals as goal

pub returns-clause-round : goal.returns-clause-round
returns-clause-round c = λ x is.
    let at = sym c.vertex_at-base.ensures.value in
    let view = sym c.grid.view_is in
    subst (λ (g : GridData). IsRound g x (record { h = c.ends_above.result; v0 = c.ends_above-2.result; v1 = c.ends_above-3.result })) c.grid.view_is
    (record {
      h = c.ends_above.ensures x.h (above-same c.args.units.h x.h c.args.stencil.h (ap (λ (g : GridData). g.h) view) (ap (λ (y : Vertex). y.i) at) is.h);
      v0 = c.ends_above-2.ensures x.v0 (above-same c.args.units.v0 x.v0 c.args.stencil.v0 (ap (λ (g : GridData). g.v0) view) (ap (λ (y : Vertex). y.j) at) is.v0);
      v1 = c.ends_above-3.ensures x.v1 (above-same c.args.units.v1 x.v1 c.args.stencil.v1 (ap (λ (g : GridData). g.v1) view) (ap (λ (y : Vertex). y.k) at) is.v1);
    })

pub returns-clause-fits : goal.returns-clause-fits
returns-clause-fits c = fits_grid c.args.grid.now c.requires.stencil.0 _ c.requires.grid (returns-clause-round c c.requires.stencil.0 c.requires.stencil.1)
