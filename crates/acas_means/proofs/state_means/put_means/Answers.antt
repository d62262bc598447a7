use Rattle.std.proofs.Common.{◌≡◌, ◌<◌, ap, ◌∙◌, arith}
use Rattle.std.proofs.lemmas.List.{length-set}
use Rattle.acas_spec.specs.Model.{GridData, states}
use Rattle.acas_grid.specs.Grid.{state_number}
use Rattle.acas_units.specs.declared.pair.Pair.{Pair}
use Rattle.acas_means.specs.Layer.{pair_at}
use Rattle.acas_means.proofs.PlacedMeans.{pairs_elsewhere, pairs_next}
use Rattle.acas_means.proofs.state_means.put_means.Goals as goal

pub loop-advisory-preserved : goal.loop-advisory-preserved
loop-advisory-preserved c =
    let g = c.args.model.now.grid in
    let v = c.args.vertex in
    let a = c.loop-advisory.advisory in
    let so_far = c.loop-advisory.invariant in
    let pair : Pair = pair_at c.args.vertex_means.now c.from.result in
    let state : c.state_among-state.result ≡ state_number g a v = c.state_among-state.ensures.value ∙ ap (λ (g : GridData). state_number g a v) c.grid-grid.ensures.value in
    let below : state_number g a v < states g = rw (← state, ← c.grid-grid.ensures.value) c.state_among-state.ensures.below in
    record {
      count = length-set c.loop-advisory.means c.state_among-state.result pair ∙ so_far.count;
      written = rw state (pairs_next g v a c.loop-advisory.means c.args.vertex_means.now pair c.requires.vertex (omega (arith, below, so_far.count)) (ap (pair_at c.args.vertex_means.now) c.from.ensures) so_far.written);
      others = λ s other. rw state (pairs_elsewhere g v a c.loop-advisory.means pair c.requires.vertex s other) ∙ so_far.others s other;
    }
