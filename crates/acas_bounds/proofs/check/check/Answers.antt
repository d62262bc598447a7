use Rattle.std.proofs.Common.{◌+ℤ◌, ap, ◌∙◌, arith, rules, w64}
use Rattle.std.proofs.lemmas.Int.{to_z-of_z}
use Rattle.acas_grid.specs.States.{vertex_at}
use Rattle.acas_process.specs.Values.{millionths}
use Rattle.acas_bounds.specs.Means.{answer_of, lower_below, upper_below}
use Rattle.acas_bounds.proofs.Faults.{choice_found, fault_by_means-later}
use Rattle.acas_bounds.proofs.check.check.Goals as goal
use mir.Syntax.{w128}
use mir.Val.{SFits}

pub returns-in-Some : goal.returns-in-Some
returns-in-Some c =
    let m = c.args.model.now in
    let x = vertex_at m.grid c.args.vertex in
    let high = upper_below m c.args.below x in
    let low = lower_below m c.args.below x in
    let fits : SFits w64 c.in-Some.cost = search rules in
    let fits_upper : SFits w64 c.means_under-means.result.upper = search rules in
    let needed = (simp to_z-of_z at c.with_cost.ensures) ∙ ap (λ z. z +ℤ millionths c.in-Some.cost) c.means_under-means.ensures.upper in
    let fits_needed : SFits w128 c.with_cost.result = search rules in
    let fits_allowed : SFits w128 c.least_lower.result = search rules in
    (simp to_z-of_z at c.check_values.ensures)
    ∙ ap answer_of (choice_found m c.args.present c.args.entry.now high low c.in-Some.cost c.with_cost.result c.least_lower.result c.in-Some.ensures.value needed c.least_lower.ensures)
    ∙ ap answer_of (fault_by_means-later m c.args.n c.args.present x c.args.entry.now high low (λ none. omega (arith, none)))
