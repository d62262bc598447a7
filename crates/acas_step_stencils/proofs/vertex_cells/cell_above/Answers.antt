use Rattle.std.proofs.lemmas.Grind.{common_steps}
use Rattle.std.proofs.Common.{sym, subst, arith, rules}
use Rattle.acas_spec.specs.Model.{GridData}
use Rattle.acas_step.specs.Sizes.{altitude_gap, rate_gap}
use Rattle.acas_step_stencils.specs.Units.{AreGapsWithin}
use Rattle.acas_step_stencils.proofs.UnitLaws.{altitude_gaps, intruder_gaps, own_gaps}
use Rattle.acas_step_stencils.proofs.vertex_cells.cell_above.Goals as goal

pub product-requires : goal.product-requires
product-requires c =
    let g : GridData = c.args.grid.now in
    record {
      h = c.gap_in-h.ensures.small altitude_gap (subst (λ (d : GridData). AreGapsWithin d.h altitude_gap) (sym c.grid.view_is) (altitude_gaps g c.requires.grid)) (omega arith);
      v0 = c.gap_in-v0.ensures.small rate_gap (subst (λ (d : GridData). AreGapsWithin d.v0 rate_gap) (sym c.grid.view_is) (own_gaps g c.requires.grid)) (omega arith);
      v1 = c.gap_in-v1.ensures.small rate_gap (subst (λ (d : GridData). AreGapsWithin d.v1 rate_gap) (sym c.grid.view_is) (intruder_gaps g c.requires.grid)) (omega arith);
    }

pub overflow_cast-result-4 : goal.overflow_cast-result-4
overflow_cast-result-4 c = omega (arith, product-requires c)

pub overflow_cast-result-5 : goal.overflow_cast-result-5
overflow_cast-result-5 c = omega (arith, product-requires c)

pub overflow_cast-result-6 : goal.overflow_cast-result-6
overflow_cast-result-6 c = omega (arith, product-requires c)

pub returns : goal.returns
returns c = grind (arith, common_steps)

pub new-requires : goal.new-requires
new-requires c = search rules
