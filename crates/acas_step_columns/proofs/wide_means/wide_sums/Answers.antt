use Rattle.std.proofs.Common.{◌<◌, length, arith}
use Rattle.std.proofs.lemmas.Grind.{common_steps}
use Rattle.acas_grid.specs.States.{vertex_at}
use Rattle.acas_means.specs.Columns.{vertex_in}
use Rattle.acas_step_narrow.specs.WideSums.{as_raised}
use Rattle.acas_step_narrow.proofs.RaisedMeans.{sums_more}
use Rattle.acas_step_narrow.proofs.CornerSums.{sum-room}
use Rattle.acas_step_columns.proofs.wide_means.wide_sums.Goals as goal

pub with_point-sums-requires-clause-weight : goal.with_point-sums-requires-clause-weight
with_point-sums-requires-clause-weight c = grind (arith, common_steps)

pub with_point-sums-requires-clause-upper : goal.with_point-sums-requires-clause-upper
with_point-sums-requires-clause-upper c =
    let m = c.args.over.now.model.now in
    let here : c.loop-sigma.sigma < length m.sigmas = omega (arith, c.loop-sigma-test.true, c.sigma_count-sigma-end.ensures.value) in
    sum-room m c.args.over.now.reach.size c.loop-sigma.sigma c.loop-sigma.sums.upper here c.sigma_count-sigma-end.ensures.valid.weights c.requires.size c.loop-sigma.invariant.within.upper

pub with_point-sums-requires-clause-lower : goal.with_point-sums-requires-clause-lower
with_point-sums-requires-clause-lower c =
    let m = c.args.over.now.model.now in
    let here : c.loop-sigma.sigma < length m.sigmas = omega (arith, c.loop-sigma-test.true, c.sigma_count-sigma-end.ensures.value) in
    sum-room m c.args.over.now.reach.size c.loop-sigma.sigma c.loop-sigma.sums.lower here c.sigma_count-sigma-end.ensures.valid.weights c.requires.size c.loop-sigma.invariant.within.lower

pub loop-sigma-preserved : goal.loop-sigma-preserved
loop-sigma-preserved c =
    let m = c.args.over.now.model.now in
    let here : c.loop-sigma.sigma < length m.sigmas = omega (arith, c.loop-sigma-test.true, c.sigma_count-sigma-end.ensures.value) in
    sums_more m c.args.over.now.below.now c.args.over.now.reach.size (vertex_at m.grid (vertex_in m.grid c.args.column c.args.i)) c.args.advisory c.loop-sigma.sigma c.narrow_weight-weight.result
    (as_raised c.loop-sigma.sums) c.wide_point-point.result (as_raised c.with_point-sums.result) here c.narrow_weight-weight.ensures c.loop-sigma.invariant c.wide_point-point.ensures
    c.with_point-sums.ensures.upper c.with_point-sums.ensures.lower
