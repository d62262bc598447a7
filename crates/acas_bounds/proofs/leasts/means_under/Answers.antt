use Rattle.std.proofs.Common.{◌≡◌, ◌+◌, ◌-◌, ◌≤◌, ◌∙◌, length, ap, arith}
use Rattle.std.proofs.lemmas.Grind.{common_steps}
use Rattle.acas_spec.specs.Model.{vertices}
use Rattle.acas_bounds.proofs.Planes.{plane_values, plane_within}
use Rattle.acas_bounds.proofs.leasts.means_under.Goals as goal

pub offset_bounds-means-first : goal.offset_bounds-means-first
offset_bounds-means-first c = grind (arith, common_steps)

pub slice_bounds-result-end : goal.slice_bounds-result-end
slice_bounds-result-end c =
    let choice = c.args.choice.now in
    let count : c.vertices.result ≡ vertices c.args.model.now.grid = c.vertices.ensures.value ∙ ap vertices c.grid.ensures.value in
    let within : choice.first + vertices c.args.model.now.grid ≤ length c.args.means.now = plane_within c.args.model.now.grid choice.advisory choice.first c.args.means.now c.requires.advisory c.requires.first c.requires.means in
    omega (arith, count, within)

pub returns-clause-narrow : goal.returns-clause-narrow
returns-clause-narrow c = grind (arith, common_steps)

pub returns-clause-values : goal.returns-clause-values
returns-clause-values c = λ v inside.
    let choice = c.args.choice.now in
    let count : c.vertices.result ≡ vertices c.args.model.now.grid = c.vertices.ensures.value ∙ ap vertices c.grid.ensures.value in
    plane_values c.args.model.now.grid choice.advisory choice.first v (choice.first + c.vertices.result - choice.first) c.args.means.now c.requires.first (omega (arith, count, inside))
