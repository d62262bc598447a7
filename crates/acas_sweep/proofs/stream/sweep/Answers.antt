use Rattle.std.proofs.Common.{◌≡◌, ℕ, ◌+◌, ◌<◌, ◌≤◌, None, List, length, replicate, refl, ap, sym, subst, ◌∙◌, arith}
use Rattle.std.proofs.lemmas.Grind.{common_steps}
use Rattle.std.proofs.Math.Nat.{mul-le-mul_right}
use Rattle.acas_spec.specs.Model.{GridData, states}
use Rattle.acas_units.specs.declared.pair.Pair.{Pair}
use Rattle.acas_plane.specs.Plane.{Plane}
use Rattle.acas_process.specs.Compiled.{compiled}
use Rattle.acas_means.specs.Layer.{IsLayer}
use Rattle.acas_sweep.specs.Filled.{pairs_in}
use Rattle.acas_sweep.specs.Handed.{LayerData, compiled_layer}
use Rattle.acas_sweep.specs.Layers.{layer_backups}
use Rattle.acas_sweep.proofs.Below.{ArePairs, is_whole}
use Rattle.acas_sweep.proofs.Filled.{filled_none, length-pairs_in}
use Rattle.acas_sweep.proofs.Handed.{AddsBelow-more, compiled_layer-is, layer_of_entries, layer_over, pairs_of_layer}
use Rattle.acas_sweep.proofs.stream.sweep.Goals as goal

pub put_first-requires-clause-filled : goal.put_first-requires-clause-filled
put_first-requires-clause-filled g c = filled_none c.args.model.now.grid c.args.block.now (ap (λ (p : Plane). p.states) c.requires.block) (ap (λ (p : Plane). p.work) c.requires.block)

pub returns-in-Err-clause-hands : goal.returns-in-Err-clause-hands
returns-in-Err-clause-hands g c =
    let m = c.args.model.now in
    let pairs = pairs_in c.put_first.new.block.work in
    let advice = c.put_first.new.advice in
    let layer : IsLayer m (compiled m) 0 pairs advice =
    layer_of_entries m 0 pairs advice (length-pairs_in c.put_first.new.block.work ∙ c.put_first.ensures.filled.place_count) (omega (arith, c.put_first.auto.advice, c.requires.advice)) c.put_first.ensures.entries in
    record {
      ok = tt;
      err = (0, omega arith, c.args.rows.now, refl, subst (λ (l : LayerData). g.S.LayerSink.cuts c.args.rows.now l c.hand_on.new.rows) (compiled_layer-is m 0 pairs advice layer) c.in-Err.ensures.err);
      failed = c.in-Err.ensures.failed;
      faults = c.hand_on.ensures.faults;
    }

pub loop-n-init : goal.loop-n-init
loop-n-init g c =
    let m = c.args.model.now in
    let b = c.put_first.new.block in
    let pairs = pairs_in b.work in
    let advice = c.put_first.new.advice in
    let filled = c.put_first.ensures.filled in
    let enough : length advice ≡ states m.grid = omega (arith, c.put_first.auto.advice, c.requires.advice) in
    let layer : IsLayer m (compiled m) 0 pairs advice = layer_of_entries m 0 pairs advice (length-pairs_in b.work ∙ filled.place_count) enough c.put_first.ensures.entries in
    record {
      state_count = c.hand_on.ensures.states ∙ filled.state_count;
      work = c.hand_on.ensures.work ∙ ap (λ (k : ℕ). replicate k None) filled.state_count;
      below = subst (λ (l : List Pair). ArePairs m 0 l) (sym c.hand_on.ensures.finished) (pairs_of_layer m 0 pairs advice layer);
      advice_count = enough;
      added = (c.args.rows.now, refl, subst (λ (l : LayerData). g.S.LayerSink.adds c.args.rows.now l c.hand_on.new.rows) (compiled_layer-is m 0 pairs advice layer) c.in-Ok.ensures.ok);
      left = omega (arith, c.requires.left, c.in-Ok.ensures.left);
      width = c.in-Ok.ensures.width ∙ c.requires.width;
      later = c.hand_on.ensures.faults;
      counted = omega arith;
      turned = omega (arith, c.hand_on.ensures.turned, filled.state_count);
    }

pub put_over-requires-clause-below : goal.put_over-requires-clause-below
put_over-requires-clause-below g c =
    let m = c.args.model.now in
    let inside : c.loop-n.n < m.grid.horizon = omega (arith, c.loop-n-test.true, ap (λ (h : GridData). h.horizon) c.behind-model.view_is, ap (λ (h : GridData). h.horizon) c.grid.ensures.value) in
    is_whole m c.loop-n.n c.loop-n.block.finished c.grid.ensures.valid inside c.loop-n.invariant.below

pub put_over-requires-clause-filled : goal.put_over-requires-clause-filled
put_over-requires-clause-filled g c = filled_none c.args.model.now.grid c.loop-n.block c.loop-n.invariant.state_count c.loop-n.invariant.work

pub put_over-requires-clause-count : goal.put_over-requires-clause-count
put_over-requires-clause-count g c =
    let m = c.args.model.now in
    let inside : c.loop-n.n + 1 ≤ m.grid.horizon = omega (arith, c.loop-n-test.true, ap (λ (h : GridData). h.horizon) c.behind-model.view_is, ap (λ (h : GridData). h.horizon) c.grid.ensures.value) in
    omega (arith, c.loop-n.invariant.counted, c.requires.backups, mul-le-mul_right (layer_backups m) inside)

pub hand_on-requires-in-loop-n-clause-turned : goal.hand_on-requires-in-loop-n-clause-turned
hand_on-requires-in-loop-n-clause-turned g c =
    let m = c.args.model.now in
    let inside : c.loop-n.n + 1 + 1 ≤ m.grid.horizon + 1 = omega (arith, c.loop-n-test.true, ap (λ (h : GridData). h.horizon) c.behind-model.view_is, ap (λ (h : GridData). h.horizon) c.grid.ensures.value) in
    omega (arith, c.loop-n.invariant.turned, c.put_over.ensures.filled.state_count, c.requires.turns, mul-le-mul_right (states m.grid) inside)

pub returns-in-Err-hand_on-clause-hands : goal.returns-in-Err-hand_on-clause-hands
returns-in-Err-hand_on-clause-hands g c =
    let m = c.args.model.now in
    let n = c.loop-n.n in
    let pairs = pairs_in c.put_over.new.block.work in
    let advice = c.put_over.new.advice in
    let inside : n + 1 < m.grid.horizon + 1 = omega (arith, c.loop-n-test.true, ap (λ (h : GridData). h.horizon) c.behind-model.view_is, ap (λ (h : GridData). h.horizon) c.grid.ensures.value) in
    let layer : IsLayer m (compiled m) (n + 1) pairs advice =
    layer_over m n c.loop-n.block.finished pairs advice c.grid.ensures.valid c.loop-n.invariant.below c.put_over.ensures.over
    (length-pairs_in c.put_over.new.block.work ∙ c.put_over.ensures.filled.place_count) (omega (arith, c.put_over.auto.advice, c.loop-n.invariant.advice_count)) in
    record {
      ok = tt;
      err = (n + 1, inside, c.loop-n.rows, c.loop-n.invariant.added, subst (λ (l : LayerData). g.S.LayerSink.cuts c.loop-n.rows l c.hand_on-in-loop-n.new.rows) (compiled_layer-is m (n + 1) pairs advice layer) c.in-Err-hand_on.ensures.err);
      failed = omega (arith, c.loop-n.invariant.later, c.in-Err-hand_on.ensures.failed);
      faults = omega (arith, c.loop-n.invariant.later, c.hand_on-in-loop-n.ensures.faults);
    }

pub loop-n-preserved : goal.loop-n-preserved
loop-n-preserved g c =
    let m = c.args.model.now in
    let n = c.loop-n.n in
    let so_far = c.loop-n.invariant in
    let b = c.put_over.new.block in
    let filled = c.put_over.ensures.filled in
    let pairs = pairs_in b.work in
    let advice = c.put_over.new.advice in
    let enough : length advice ≡ states m.grid = omega (arith, c.put_over.auto.advice, so_far.advice_count) in
    let layer : IsLayer m (compiled m) (n + 1) pairs advice =
    layer_over m n c.loop-n.block.finished pairs advice c.grid.ensures.valid so_far.below c.put_over.ensures.over (length-pairs_in b.work ∙ filled.place_count) enough in
    record {
      state_count = c.hand_on-in-loop-n.ensures.states ∙ filled.state_count;
      work = c.hand_on-in-loop-n.ensures.work ∙ ap (λ (k : ℕ). replicate k None) filled.state_count;
      below = subst (λ (l : List Pair). ArePairs m (n + 1) l) (sym c.hand_on-in-loop-n.ensures.finished) (pairs_of_layer m (n + 1) pairs advice layer);
      advice_count = enough;
      added = AddsBelow-more g.S.LayerSink.adds (compiled_layer m) c.args.rows.now (n + 1) c.loop-n.rows c.hand_on-in-loop-n.new.rows so_far.added
          (subst (λ (l : LayerData). g.S.LayerSink.adds c.loop-n.rows l c.hand_on-in-loop-n.new.rows) (compiled_layer-is m (n + 1) pairs advice layer) c.in-Ok-hand_on.ensures.ok);
      left = omega (arith, so_far.left, c.in-Ok-hand_on.ensures.left);
      width = c.in-Ok-hand_on.ensures.width ∙ so_far.width;
      later = omega (arith, so_far.later, c.hand_on-in-loop-n.ensures.faults);
      counted = omega (arith, so_far.counted, c.put_over.ensures.count);
      turned = omega (arith, so_far.turned, c.hand_on-in-loop-n.ensures.turned, filled.state_count);
    }

pub hand_on-requires-in-loop-n-clause-left : goal.hand_on-requires-in-loop-n-clause-left
hand_on-requires-in-loop-n-clause-left g c = grind (arith, common_steps)

pub put_over-requires-clause-horizon : goal.put_over-requires-clause-horizon
put_over-requires-clause-horizon g c = grind (arith, common_steps)

pub hand_on-requires-in-loop-n-clause-advice : goal.hand_on-requires-in-loop-n-clause-advice
hand_on-requires-in-loop-n-clause-advice g c = grind (arith, common_steps)

pub put_over-requires-clause-advice : goal.put_over-requires-clause-advice
put_over-requires-clause-advice g c = grind (arith, common_steps)

pub returns-in-Err-hand_on-clause-counts : goal.returns-in-Err-hand_on-clause-counts
returns-in-Err-hand_on-clause-counts g c = grind (arith, common_steps)

pub overflow_add-n : goal.overflow_add-n
overflow_add-n g c = grind (arith, common_steps)

pub returns : goal.returns
returns g c = grind (arith, common_steps)
