use Rattle.std.proofs.Common.{◌≡◌, ◌≢◌, ℕ, ◌+◌, ◌-◌, ◌*◌, ◌<◌, length, get_or, set, ap, sym, subst, ◌∙◌, arith}
use Rattle.std.specs.Int.{◌∣◌}
use Rattle.std.proofs.lemmas.List.{get_or-set_other, get_or-set_same, length-set}
use borrow.Author.Count.{below_more}
use Rattle.acas_spec.specs.Axis.{place_value}
use Rattle.acas_spec.specs.Model.{GridData}
use Rattle.acas_process.specs.Axis.{distance, gap}
use Rattle.acas_step_stencils.proofs.HeightLaws.{height_more, height_small}
use Rattle.acas_step_stencils.proofs.heights.fill_heights.Goals as goal

pub in_unit-gap-requires-clause-divides : goal.in_unit-gap-requires-clause-divides
in_unit-gap-requires-clause-divides c =
    let g : GridData = c.args.grid.now in
    let below : ℕ = c.loop-place.place - 1 in
    let here : below + 1 < length g.h = omega (arith, c.loop-place-test.true, c.len-place-end.ensures.value, ap (λ (d : GridData). length d.h) c.grid.view_is) in
    subst (λ (n : ℕ). c.args.unit ∣ n) (sym (c.gap_at.ensures ∙ ap (λ (d : GridData). gap d.h below) c.grid.view_is)) (c.requires.gaps.each below here)

pub overflow_add-heights : goal.overflow_add-heights
overflow_add-heights c =
    let g : GridData = c.args.grid.now in
    let below : ℕ = c.loop-place.place - 1 in
    let here : below + 1 < length g.h = omega (arith, c.loop-place-test.true, c.len-place-end.ensures.value, ap (λ (d : GridData). length d.h) c.grid.view_is) in
    let step : c.args.unit * c.in_unit-gap.result ≡ gap g.h below = c.in_unit-gap.ensures ∙ c.gap_at.ensures ∙ ap (λ (d : GridData). gap d.h below) c.grid.view_is in
    let next = height_more g.h c.args.unit (get_or c.loop-place.heights below 0) c.in_unit-gap.result below c.requires.grid.altitudes here (c.loop-place.invariant.each below (omega arith)) step in
    omega (arith, height_small g c.args.unit (get_or c.loop-place.heights below 0 + c.in_unit-gap.result) (below + 1) c.requires.grid c.requires.some here next)

pub loop-place-preserved : goal.loop-place-preserved
loop-place-preserved c =
    let g : GridData = c.args.grid.now in
    let place : ℕ = c.loop-place.place in
    let below : ℕ = place - 1 in
    let high : ℕ = get_or c.loop-place.heights below 0 + c.in_unit-gap.result in
    let so = c.loop-place.invariant in
    let here : below + 1 < length g.h = omega (arith, c.loop-place-test.true, c.len-place-end.ensures.value, ap (λ (d : GridData). length d.h) c.grid.view_is) in
    let inside : place < length c.loop-place.heights = omega (arith, here, so.long) in
    let step : c.args.unit * c.in_unit-gap.result ≡ gap g.h below = c.in_unit-gap.ensures ∙ c.gap_at.ensures ∙ ap (λ (d : GridData). gap d.h below) c.grid.view_is in
    let next = height_more g.h c.args.unit (get_or c.loop-place.heights below 0) c.in_unit-gap.result below c.requires.grid.altitudes here (so.each below (omega arith)) step in
    let at : below + 1 ≡ place = omega arith in
    let is = λ (k n : ℕ). c.args.unit * n ≡ distance (place_value g.h 0) (place_value g.h k) in
    record {
      long = length-set c.loop-place.heights place high ∙ so.long;
      each = below_more (λ (k : ℕ). is k (get_or (set c.loop-place.heights place high) k 0)) place
          (λ k h.
          let apart : k ≢ place = λ e. absurd (omega arith) in
          subst (λ (n : ℕ). is k n) (sym (get_or-set_other c.loop-place.heights place k high 0 apart)) (so.each k h))
          (subst (λ (n : ℕ). is place n) (sym (get_or-set_same c.loop-place.heights place high 0 inside)) (subst (λ (k : ℕ). is k high) at next));
    }
