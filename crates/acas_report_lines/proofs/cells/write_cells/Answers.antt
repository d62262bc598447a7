use Rattle.std.proofs.Common.{ℕ, subst, ◌≡◌, ◌+◌, ◌*◌, ◌<◌, ◌≤◌, ◌∙◌, ap, arith, mul-le-mul_right}
use Rattle.std.proofs.lemmas.Grind.{common_steps}
use Rattle.acas_spec.specs.Model.{GridData}
use Rattle.acas_outside.proofs.Appended.{on_err_always}
use Rattle.acas_cells.specs.Cells.{block_cells, layer_cells}
use Rattle.acas_cells.specs.DecisionCounts.{IsSumBelow, most_decisions, no_more}
use Rattle.acas_cells.proofs.DecisionCounts.{one_more_at}
use Rattle.acas_report_lines.proofs.Steps.{wrote_none, wrote_more, wrote_all, broke_more, room_left}
use Rattle.acas_report_lines.specs.Blocks.{IsLayerPrepared}
use Rattle.acas_report_lines.specs.Plans.{plan_of}
use Rattle.acas_report_lines.proofs.cells.write_cells.Goals as goal

pub loop-n-init : goal.loop-n-init
loop-n-init g c = record { wrote = wrote_none _ _; frame = grind arith; fits = c.requires.fits; counted = (0, no_more, omega arith); most = omega arith }

pub loop-present-init : goal.loop-present-init
loop-present-init g c = record { wrote = wrote_none _ _; frame = grind arith; fits = c.loop-n.invariant.fits; counted = (0, no_more, omega arith); most = omega arith }

pub loop-present-preserved : goal.loop-present-preserved
loop-present-preserved g c =
    let before = c.loop-present.invariant.counted in
    let here = c.prepare.ensures.counted in
    record {
      wrote = wrote_more (plan_of c.args.audit.now) (λ present. block_cells c.args.audit.now.model.now c.loop-n.n present) c.loop-present.present _ _ _ c.loop-present.invariant.wrote c.in_ok-write_block.ensures.ok;
      frame = grind arith;
      fits = c.prepare.ensures.fits;
      counted = (before.0 + here.0, one_more_at _ c.loop-present.present before.0 here.0 before.1 here.1, omega (arith, before.2, here.2));
      most = omega (arith, c.loop-present.invariant.most, c.prepare.ensures.most);
    }

pub loop-n-preserved : goal.loop-n-preserved
loop-n-preserved g c =
    let m = c.args.audit.now.model.now in
    let plan = plan_of c.args.audit.now in
    let same : c.grid.inside.advisories ≡ m.grid.advisories = ap (λ (g : GridData). g.advisories) (c.grid.view_is ∙ c.grid-grid.ensures.value) in
    let ends : c.loop-present.present ≡ m.grid.advisories = omega (arith, c.loop-present-test.false, c.loop-present.auto.present-end) in
    let before = c.loop-n.invariant.counted in
    let here = c.loop-present.invariant.counted in
    let layer : IsLayerPrepared g.R.Rulings.takes m c.args.audit.now.advices.now c.loop-n.n here.0 =
    subst (λ (x : ℕ). IsSumBelow (λ present part. g.R.Rulings.takes m c.args.audit.now.advices.now c.loop-n.n present part) x here.0) ends here.1
    in
    record {
      wrote = wrote_more plan (λ n. layer_cells m n) c.loop-n.n _ _ _ c.loop-n.invariant.wrote
          (wrote_all plan (λ present. block_cells m c.loop-n.n present) _ c.loop-present.present _ _ ends c.loop-present.invariant.wrote);
      frame = grind arith;
      fits = c.loop-present.invariant.fits;
      counted = (before.0 + here.0, one_more_at _ c.loop-n.n before.0 here.0 before.1 layer, omega (arith, before.2, here.2));
      most = omega (arith, c.loop-n.invariant.most, c.loop-present.invariant.most, ap (λ (x : ℕ). x * most_decisions m) ends);
    }

pub write_block-requires-clause-room : goal.write_block-requires-clause-room
write_block-requires-clause-room g c =
    let m = c.args.audit.now.model.now in
    let plan = plan_of c.args.audit.now in
    let same = c.grid.view_is ∙ c.grid-grid.ensures.value in
    let n_within : c.loop-n.n < m.grid.horizon = omega (arith, ap (λ (g : GridData). g.horizon) same) in
    let present_within : c.loop-present.present < m.grid.advisories = omega (arith, ap (λ (g : GridData). g.advisories) same) in
    let layer = room_left plan (λ n. layer_cells m n) m.grid.horizon c.loop-n.n _ _ n_within c.requires.room c.loop-n.invariant.wrote in
    room_left plan (λ present. block_cells m c.loop-n.n present) m.grid.advisories c.loop-present.present _ _ present_within layer c.loop-present.invariant.wrote

pub returns-in_err-write_block-clause-err : goal.returns-in_err-write_block-clause-err
returns-in_err-write_block-clause-err g c =
    let m = c.args.audit.now.model.now in
    let plan = plan_of c.args.audit.now in
    let same = c.grid.view_is ∙ c.grid-grid.ensures.value in
    let n_within : c.loop-n.n < m.grid.horizon = omega (arith, ap (λ (g : GridData). g.horizon) same) in
    let present_within : c.loop-present.present < m.grid.advisories = omega (arith, ap (λ (g : GridData). g.advisories) same) in
    let layer = broke_more plan (λ present. block_cells m c.loop-n.n present) m.grid.advisories c.loop-present.present _ _ _ present_within c.loop-present.invariant.wrote c.in_err-write_block.ensures.err in
    on_err_always _ (broke_more plan (λ n. layer_cells m n) m.grid.horizon c.loop-n.n _ _ _ n_within c.loop-n.invariant.wrote layer)

pub prepare-requires-clause-room : goal.prepare-requires-clause-room
prepare-requires-clause-room g c =
    let m = c.args.audit.now.model.now in
    let same = c.grid.view_is ∙ c.grid-grid.ensures.value in
    let n_within : c.loop-n.n + 1 ≤ m.grid.horizon = omega (arith, ap (λ (g : GridData). g.horizon) same) in
    let present_within : c.loop-present.present + 1 ≤ m.grid.advisories = omega (arith, ap (λ (g : GridData). g.advisories) same) in
    omega (
      arith,
      c.requires.decisions,
      c.loop-n.invariant.most,
      c.loop-present.invariant.most,
      mul-le-mul_right (m.grid.advisories * most_decisions m) n_within,
      mul-le-mul_right (most_decisions m) present_within,
    )

pub returns-clause-counted : goal.returns-clause-counted
returns-clause-counted g c =
    let m = c.args.audit.now.model.now in
    let same : c.grid.inside.horizon ≡ m.grid.horizon = ap (λ (g : GridData). g.horizon) (c.grid.view_is ∙ c.grid-grid.ensures.value) in
    let ends : c.loop-n.n ≡ m.grid.horizon = omega (arith, c.loop-n-test.false, c.loop-n.auto.n-end) in
    let number = c.loop-n.invariant.counted in (
      number.0,
      subst (λ (x : ℕ). IsSumBelow (λ n layer. IsLayerPrepared g.R.Rulings.takes m c.args.audit.now.advices.now n layer) x number.0) ends number.1,
      number.2,
    )

pub prepare-requires-clause-present : goal.prepare-requires-clause-present
prepare-requires-clause-present g c = grind (arith, common_steps)

pub prepare-requires-clause-n : goal.prepare-requires-clause-n
prepare-requires-clause-n g c = grind (arith, common_steps)

pub write_block-requires-clause-present : goal.write_block-requires-clause-present
write_block-requires-clause-present g c = grind (arith, common_steps)

pub write_block-requires-clause-n : goal.write_block-requires-clause-n
write_block-requires-clause-n g c = grind (arith, common_steps)

pub returns-in_err-write_block-clause-frame : goal.returns-in_err-write_block-clause-frame
returns-in_err-write_block-clause-frame g c = grind (arith, common_steps)
