use Rattle.std.proofs.Common.{ℕ, ◌/◌, ◌%◌, ◌<◌, length, get_or, subst, arith}
use Rattle.acas_spec.specs.Model.{GridData}
use Rattle.acas_grid.specs.States.{vertex_at}
use Rattle.acas_process.specs.Step.{moved}
use Rattle.acas_means.specs.Columns.{columns}
use Rattle.acas_step_stencils.specs.Units.{DivideGaps}
use Rattle.acas_step_stencils.specs.Stencils.{climb_from}
use Rattle.acas_step_stencils.proofs.UnitLaws.{stencil-counted}
use Rattle.acas_step_stencils.proofs.column_stencils.fill_in_units.Goals as goal

pub count_offsets-requires-clause-small : goal.count_offsets-requires-clause-small
count_offsets-requires-clause-small c = λ n d here. (c.fill_stencils.ensures.stencils.each n d (omega (arith, here, c.fill_stencils.ensures.count))).small

pub returns-clause-stencils : goal.returns-clause-stencils
returns-clause-stencils c = record {
  each = λ n d here.
      let m = c.args.model.now in
      let old = c.fill_stencils.new.stencils in
      let now = c.count_offsets.new.stencils in
      let inside : n < length old = omega (arith, here, c.fill_stencils.ensures.count) in
      let row : ℕ = n / length m.sigmas in
      let x = vertex_at m.grid (row % columns m.grid) in
      let a : ℕ = row / columns m.grid in
      let q : ℕ = n % length m.sigmas in
      stencil-counted m.grid c.units_of-units.result (moved m x a q) (climb_from m x a q) (get_or old n d) (get_or now n d) (c.fill_stencils.ensures.stencils.each n d here) (c.count_offsets.ensures.counted n d inside);
}

pub returns-clause-gaps : goal.returns-clause-gaps
returns-clause-gaps c = subst (λ (g : GridData). DivideGaps g c.units_of-units.result) c.grid.ensures.value c.units_of-units.ensures.gaps
