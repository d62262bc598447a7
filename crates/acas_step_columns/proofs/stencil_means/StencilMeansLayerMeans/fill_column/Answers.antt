use Rattle.std.proofs.Common.{◌<◌, length, arith, rules}
use Rattle.std.proofs.lemmas.Grind.{common_steps}
use Rattle.acas_means.proofs.ColumnLaws.{vertex_in-below}
use Rattle.acas_step_columns.proofs.stencil_means.StencilMeansLayerMeans.fill_column.Goals as goal

pub own_rate_at-requires : goal.own_rate_at-requires
own_rate_at-requires c =
    let g = c.args.model.now.grid in
    let some : 0 < length g.h = omega (arith, c.grid.ensures.valid.grid.altitudes.at_least) in
    omega (arith, vertex_in-below g c.args.column 0 c.requires.column some)

pub loop-advisory-init : goal.loop-advisory-init
loop-advisory-init c = grind (arith, common_steps)

pub returns-clause-means : goal.returns-clause-means
returns-clause-means c = record {
  each = λ i here. record { each = λ a known. c.loop-advisory.invariant.means i a here (omega (arith, c.loop-advisory-test.false, c.advisory_count-advisory-end.ensures.value, known)) };
}

pub loop-advisory-preserved : goal.loop-advisory-preserved
loop-advisory-preserved c = record {
  means = c.fill_advisory.ensures.means;
  bounded = λ most side within before. c.fill_advisory.ensures.bounded most side within (c.loop-advisory.invariant.bounded most side within before);
}

pub source_of-source-requires : goal.source_of-source-requires
source_of-source-requires c = search rules

pub returns-clause-bounded : goal.returns-clause-bounded
returns-clause-bounded c = grind (arith, common_steps)
