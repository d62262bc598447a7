use Rattle.std.proofs.Common.{◌≡◌, ℕ, ◌+◌, ◌*◌, ◌<◌, ◌≤◌, length, ap, ◌∙◌, arith}
use Rattle.std.proofs.lemmas.Grind.{common_steps}
use Rattle.std.proofs.lemmas.List.{length-set}
use Rattle.acas_spec.specs.Model.{GridData}
use Rattle.acas_means.specs.Columns.{columns, vertex_in}
use Rattle.acas_step.specs.Ends.{column_of}
use Rattle.acas_step_narrow.specs.Raised.{along_v0, raised_at, width}
use Rattle.acas_means.specs.declared.layer.Side.{Side}
use Rattle.acas_means.specs.declared.layer.Side.TheVariants.{Upper, Lower}
use Rattle.acas_means.proofs.ColumnLaws.{vertex_in-below}
use Rattle.acas_step.proofs.CellColumns.{upper_column-below}
use Rattle.acas_means.proofs.Written.{each_written}
use Rattle.acas_step_narrow.proofs.column_blends.fill_blends.Goals as goal

pub along_rates-blend-requires-clause-place : goal.along_rates-blend-requires-clause-place
along_rates-blend-requires-clause-place c =
    let g : GridData = c.args.grid.now in
    let t = c.args.cell.now in
    let row : c.len-row.result ≡ length g.v1 = c.len-row.ensures.value ∙ ap (λ (d : GridData). length d.v1) c.grid.view_is in
    let here : c.loop-i.i < length g.h = omega (arith, c.loop-i-test.true, c.len-i-end.ensures.value, ap (λ (d : GridData). length d.h) c.grid.view_is) in
    omega (arith, c.loop-i.invariant.at, row, c.requires.first, vertex_in-below g (column_of g t + length g.v1 + 1) c.loop-i.i (upper_column-below g t c.requires.fits) here)

pub along_rates-blend-requires-clause-weights : goal.along_rates-blend-requires-clause-weights
along_rates-blend-requires-clause-weights c = (c.args.cell.now, c.args.by, c.rate_weights-weights.ensures, c.requires.upper, c.requires.lower)

pub loop-i-preserved : goal.loop-i-preserved
loop-i-preserved c =
    let g : GridData = c.args.grid.now in
    let t = c.args.cell.now in
    let by = c.args.by in
    let i = c.loop-i.i in
    let so_far = c.loop-i.invariant in
    let blend = c.along_rates-blend in
    let weights = c.rate_weights-weights.ensures in
    let row : c.len-row.result ≡ length g.v1 = c.len-row.ensures.value ∙ ap (λ (d : GridData). length d.v1) c.grid.view_is in
    let short_upper : i < length c.loop-i.uppers = omega (arith, c.loop-i-test.true, c.len-i-end.ensures, so_far.long_upper) in
    let short_lower : i < length c.loop-i.lowers = omega (arith, c.loop-i-test.true, c.len-i-end.ensures, so_far.long_lower) in
    let wide : c.column_count-columns.result ≡ columns g = c.column_count-columns.ensures in
    let is : Side → ℕ → ℕ = λ side k. along_v0 t (length g.v1) (raised_at by side c.args.below.now) (c.args.first + vertex_in g (column_of g t) k) in
    let same : (side : Side) → along_v0 t c.len-row.result (raised_at by side c.args.below.now) c.loop-i.at ≡ is side i =
    λ side. ap (λ (n : ℕ). along_v0 t n (raised_at by side c.args.below.now) c.loop-i.at) row
    ∙ ap (λ (n : ℕ). along_v0 t (length g.v1) (raised_at by side c.args.below.now) n) so_far.at in
    record {
      at = omega (arith, so_far.at, wide);
      long_upper = length-set c.loop-i.uppers i blend.result.upper ∙ so_far.long_upper;
      long_lower = length-set c.loop-i.lowers i blend.result.lower ∙ so_far.long_lower;
      upper = each_written (λ (k n : ℕ). n ≡ is Upper k) c.loop-i.uppers i blend.result.upper 0 short_upper so_far.upper (blend.ensures.upper t by weights c.requires.upper ∙ same Upper);
      lower = each_written (λ (k n : ℕ). n ≡ is Lower k) c.loop-i.lowers i blend.result.lower 0 short_lower so_far.lower (blend.ensures.lower t by weights c.requires.lower ∙ same Lower);
      within_upper = each_written (λ (k n : ℕ). n ≤ 2 * by * width t.v1 * width t.v0) c.loop-i.uppers i blend.result.upper 0 short_upper so_far.within_upper (omega (arith, blend.ensures.within.upper, weights.most));
      within_lower = each_written (λ (k n : ℕ). n ≤ 2 * by * width t.v1 * width t.v0) c.loop-i.lowers i blend.result.lower 0 short_lower so_far.within_lower (omega (arith, blend.ensures.within.lower, weights.most));
    }

pub returns-clause-blends : goal.returns-clause-blends
returns-clause-blends c = grind (arith, common_steps)

pub returns-clause-within : goal.returns-clause-within
returns-clause-within c = grind (arith, common_steps)

pub overflow_add-at-in-loop-i : goal.overflow_add-at-in-loop-i
overflow_add-at-in-loop-i c = grind (arith, common_steps)

pub loop-i-init : goal.loop-i-init
loop-i-init c = grind (arith, common_steps)
