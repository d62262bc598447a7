use Rattle.std.proofs.Common.{◌≡◌, ℕ, ◌+◌, ◌*◌, ◌<◌, length, ap, ◌∙◌, arith}
use Rattle.std.proofs.lemmas.Grind.{common_steps}
use Rattle.std.proofs.lemmas.List.{length-set}
use Rattle.acas_spec.specs.Model.{GridData}
use Rattle.acas_grid.specs.States.{vertex_at}
use Rattle.acas_means.specs.Columns.{vertex_in}
use Rattle.acas_step_narrow.specs.Narrow.{AreRaisedSums, weights_below}
use Rattle.acas_step_narrow.specs.Raised.{AreRaisedWithin, raised_in}
use Rattle.acas_step_narrow.specs.declared.raised.Raised.{Raised}
use Rattle.acas_step_stencils.proofs.ColumnCells.{rates_in_column}
use Rattle.acas_step_narrow.proofs.RaisedMeans.{raised_fits, sums_more, within_more}
use Rattle.acas_step_narrow.proofs.RaisedWritten.{both_written, other_written}
use Rattle.acas_step_columns.proofs.column_sums.add_points.Goals as goal

pub point_in_column-requires-clause-stencil : goal.point_in_column-requires-clause-stencil
point_in_column-requires-clause-stencil c = grind (arith, common_steps)

pub point_in_column-requires-clause-rates : goal.point_in_column-requires-clause-rates
point_in_column-requires-clause-rates c =
    let m = c.args.over.now.model.now in
    let g : GridData = m.grid in
    let here : c.loop-i.i < length g.h = omega (arith, c.loop-i-test.true, c.len-i-end.ensures.value, ap (λ (d : GridData). length d.h) (c.grid.view_is ∙ c.grid-grid.ensures.value)) in
    rates_in_column m c.args.over.now.stencils.now.units c.args.rates.now c.args.key.column c.loop-i.i c.args.key.advisory c.args.key.sigma c.requires.stencil.column here c.requires.rates

pub point_in_column-requires-clause-within : goal.point_in_column-requires-clause-within
point_in_column-requires-clause-within c = grind (arith, common_steps)

pub with_point-next-requires-clause-upper : goal.with_point-next-requires-clause-upper
with_point-next-requires-clause-upper c =
    let m = c.args.over.now.model.now in
    let here : c.loop-i.i < length m.grid.h = omega (arith, c.loop-i-test.true, c.len-i-end.ensures.value, ap (λ (d : GridData). length d.h) (c.grid.view_is ∙ c.grid-grid.ensures.value)) in
    let old : Raised = raised_in c.args.uppers.now c.args.lowers.now c.loop-i.i in
    let same : raised_in c.loop-i.uppers c.loop-i.lowers c.loop-i.i ≡ old = c.loop-i.invariant.others c.loop-i.i (omega arith) in
    let fits = raised_fits m c.args.over.now.reach.size c.args.key.sigma c.narrow_weight-weight.result old.upper c.in-Some.point.upper c.requires.stencil.sigma c.narrow_weight-weight.ensures
    (c.requires.sums.each c.loop-i.i here).upper c.in-Some.ensures.within.upper c.requires.weights in
    omega (arith, fits, ap (λ (p : Raised). p.upper) same)

pub with_point-next-requires-clause-lower : goal.with_point-next-requires-clause-lower
with_point-next-requires-clause-lower c =
    let m = c.args.over.now.model.now in
    let here : c.loop-i.i < length m.grid.h = omega (arith, c.loop-i-test.true, c.len-i-end.ensures.value, ap (λ (d : GridData). length d.h) (c.grid.view_is ∙ c.grid-grid.ensures.value)) in
    let old : Raised = raised_in c.args.uppers.now c.args.lowers.now c.loop-i.i in
    let same : raised_in c.loop-i.uppers c.loop-i.lowers c.loop-i.i ≡ old = c.loop-i.invariant.others c.loop-i.i (omega arith) in
    let fits = raised_fits m c.args.over.now.reach.size c.args.key.sigma c.narrow_weight-weight.result old.lower c.in-Some.point.lower c.requires.stencil.sigma c.narrow_weight-weight.ensures
    (c.requires.sums.each c.loop-i.i here).lower c.in-Some.ensures.within.lower c.requires.weights in
    omega (arith, fits, ap (λ (p : Raised). p.lower) same)

pub returns-in-None-clause-within : goal.returns-in-None-clause-within
returns-in-None-clause-within c = grind (arith, common_steps)

pub loop-i-preserved : goal.loop-i-preserved
loop-i-preserved c =
    let m = c.args.over.now.model.now in
    let g : GridData = m.grid in
    let by = c.args.over.now.reach.size in
    let q = c.args.key.sigma in
    let i = c.loop-i.i in
    let so_far = c.loop-i.invariant in
    let next : Raised = record { upper = c.with_point-next.result.upper; lower = c.with_point-next.result.lower } in
    let point = c.in-Some.point in
    let old : Raised = raised_in c.args.uppers.now c.args.lowers.now i in
    let same : raised_in c.loop-i.uppers c.loop-i.lowers i ≡ old = so_far.others i (omega arith) in
    let here : i < length g.h = omega (arith, c.loop-i-test.true, c.len-i-end.ensures.value, ap (λ (d : GridData). length d.h) (c.grid.view_is ∙ c.grid-grid.ensures.value)) in
    let short_upper : i < length c.loop-i.uppers = omega (arith, c.loop-i-test.true, c.len-i-end.ensures, so_far.long_upper) in
    let short_lower : i < length c.loop-i.lowers = omega (arith, c.loop-i-test.true, c.len-i-end.ensures, so_far.long_lower) in
    let upper = c.with_point-next.ensures.upper ∙ ap (λ (p : Raised). p.upper + c.narrow_weight-weight.result * point.upper) same in
    let lower = c.with_point-next.ensures.lower ∙ ap (λ (p : Raised). p.lower + c.narrow_weight-weight.result * point.lower) same in
    record {
      long_upper = length-set c.loop-i.uppers i next.upper ∙ so_far.long_upper;
      long_lower = length-set c.loop-i.lowers i next.lower ∙ so_far.long_lower;
      others = λ k above. other_written c.loop-i.uppers c.loop-i.lowers i k next.upper next.lower (λ (e : k ≡ i). absurd (omega arith)) ∙ so_far.others k (omega arith);
      within = both_written (λ (k : ℕ) (p : Raised). AreRaisedWithin (2 * by * weights_below m (q + 1)) p) c.loop-i.uppers c.loop-i.lowers i next.upper next.lower short_upper short_lower so_far.within
          (within_more m by q c.narrow_weight-weight.result old point next c.requires.stencil.sigma c.narrow_weight-weight.ensures (c.requires.sums.each i here) c.in-Some.ensures.within upper lower);
      sums = λ below all high low blends before.
          both_written (λ (k : ℕ) (p : Raised). AreRaisedSums m below by (vertex_at g (vertex_in g c.args.key.column k)) c.args.key.advisory (q + 1) p) c.loop-i.uppers c.loop-i.lowers i next.upper next.lower short_upper short_lower (so_far.sums below all high low blends before)
          (sums_more m below by (vertex_at g (vertex_in g c.args.key.column i)) c.args.key.advisory q c.narrow_weight-weight.result old point next c.requires.stencil.sigma c.narrow_weight-weight.ensures (before.each i here)
          (c.in-Some.ensures.point below all high low blends) upper lower);
    }

pub returns-clause-within : goal.returns-clause-within
returns-clause-within c = λ _. record {
  each = λ i here. c.loop-i.invariant.within i (omega (arith, c.loop-i-test.false, here, c.len-i-end.ensures.value, ap (λ (d : GridData). length d.h) (c.grid.view_is ∙ c.grid-grid.ensures.value)));
}

pub returns-clause-sums : goal.returns-clause-sums
returns-clause-sums c = λ below all high low blends before _. record {
  each = λ i here. c.loop-i.invariant.sums below all high low blends before i (omega (arith, c.loop-i-test.false, here, c.len-i-end.ensures.value, ap (λ (d : GridData). length d.h) (c.grid.view_is ∙ c.grid-grid.ensures.value)));
}
