use Rattle.std.proofs.Common.{ℕ, subst, sym, arith}
use Rattle.std.proofs.lemmas.Grind.{common_steps}
use Rattle.acas_grid.specs.States.{vertex_at}
use Rattle.acas_units.specs.declared.pair.Pair.{Pair}
use Rattle.acas_means.specs.Columns.{vertex_in}
use Rattle.acas_step_columns.specs.ColumnSums.{IsSource}
use Rattle.acas_means.specs.Layer.{pair_at}
use Rattle.acas_means.specs.Means.{AreMeansAt}
use Rattle.acas_step_narrow.specs.Raised.{raised_in}
use Rattle.acas_step_columns.specs.declared.columns.Source.{Source}
use Rattle.acas_step_columns.specs.declared.columns.Source.TheVariants.{Twin, Sums}
use Rattle.acas_means.proofs.TableMeans.{means_bounded}
use Rattle.acas_step_narrow.proofs.RaisedMeans.{means_of_all}
use Rattle.acas_step_columns.proofs.SourceMeans.{means_of_twin}
use Rattle.acas_step_columns.proofs.columns.mean_pair_from.Goals as goal

pub means_of_sums-requires : goal.means_of_sums-requires
means_of_sums-requires c = grind (arith, common_steps)

pub returns-in-Twin-clause-means : goal.returns-in-Twin-clause-means
returns-in-Twin-clause-means c =
    let m = c.args.over.now.model.now in
    let below = c.args.over.now.below.now in
    let x = vertex_at m.grid (vertex_in m.grid c.args.column c.args.i) in
    let a = c.args.advisory in
    let twin = c.in-Twin.twin in
    let changes = c.args.changes.now in
    let pair : Pair = pair_at c.args.earlier.now c.from.result in
    let from : IsSource c.args.over.now changes c.args.column a c.args.uppers.now c.args.lowers.now (Twin twin) =
    subst (λ (s : Source). IsSource c.args.over.now changes c.args.column a c.args.uppers.now c.args.lowers.now s) c.in-Twin.is c.requires.source in
    let formed : AreMeansAt m below x twin pair = subst (λ (k : ℕ). AreMeansAt m below x twin (pair_at c.args.earlier.now k)) (sym c.from.ensures) (c.requires.earlier twin from.0) in
    means_of_twin m below c.args.over.now.reach.likes changes c.args.column c.args.i a twin pair c.requires.column.column c.requires.place c.requires.column.reach.likes c.requires.changes c.requires.column.advisory
    (omega (arith, from.0, c.requires.column.advisory)) from.1 from.2 formed

pub returns-in-Twin-clause-bounded : goal.returns-in-Twin-clause-bounded
returns-in-Twin-clause-bounded c = λ most side within.
    let m = c.args.over.now.model.now in
    means_bounded m c.args.over.now.below.now (vertex_at m.grid (vertex_in m.grid c.args.column c.args.i)) c.args.advisory (pair_at c.args.earlier.now c.from.result) most side
    c.grid-grid.ensures.valid c.requires.column.advisory c.requires.column.below (returns-in-Twin-clause-means c) within

pub returns-in-Sums-clause-means : goal.returns-in-Sums-clause-means
returns-in-Sums-clause-means c =
    let m = c.args.over.now.model.now in
    let below = c.args.over.now.below.now in
    let from : IsSource c.args.over.now c.args.changes.now c.args.column c.args.advisory c.args.uppers.now c.args.lowers.now Sums =
    subst (λ (s : Source). IsSource c.args.over.now c.args.changes.now c.args.column c.args.advisory c.args.uppers.now c.args.lowers.now s) c.in-Sums.is c.requires.source in
    means_of_all m below c.args.over.now.reach.size c.args.over.now.stencils.now.total.by (vertex_at m.grid (vertex_in m.grid c.args.column c.args.i)) c.args.advisory
    (raised_in c.args.uppers.now c.args.lowers.now c.args.i) c.means_of_sums.result c.requires.column.usable.stencils.by (from.1.each c.args.i c.requires.place)
    c.means_of_sums.ensures.upper c.means_of_sums.ensures.lower

pub returns-in-Sums-clause-bounded : goal.returns-in-Sums-clause-bounded
returns-in-Sums-clause-bounded c = λ most side within.
    let m = c.args.over.now.model.now in
    means_bounded m c.args.over.now.below.now (vertex_at m.grid (vertex_in m.grid c.args.column c.args.i)) c.args.advisory c.means_of_sums.result most side
    c.grid-grid.ensures.valid c.requires.column.advisory c.requires.column.below (returns-in-Sums-clause-means c) within

pub returns-in-Wide-clause-bounded : goal.returns-in-Wide-clause-bounded
returns-in-Wide-clause-bounded c = λ most side within.
    let m = c.args.over.now.model.now in
    means_bounded m c.args.over.now.below.now (vertex_at m.grid (vertex_in m.grid c.args.column c.args.i)) c.args.advisory c.wide_means.result most side
    c.grid-grid.ensures.valid c.requires.column.advisory c.requires.column.below c.wide_means.ensures within

pub returns-in-Layer-clause-bounded : goal.returns-in-Layer-clause-bounded
returns-in-Layer-clause-bounded c = grind (arith, common_steps)

pub bounds-earlier-from : goal.bounds-earlier-from
bounds-earlier-from c = grind (arith, common_steps)

pub wide_means-requires : goal.wide_means-requires
wide_means-requires c = grind (arith, common_steps)

pub vertex_in_column-vertex-requires : goal.vertex_in_column-vertex-requires
vertex_in_column-vertex-requires c = grind (arith, common_steps)

pub mean_by-requires : goal.mean_by-requires
mean_by-requires c = grind (arith, common_steps)

pub mean_by-requires-in-Layer : goal.mean_by-requires-in-Layer
mean_by-requires-in-Layer c = grind (arith, common_steps)
