use Rattle.std.proofs.Common.{◌≡◌, ◌<◌, ap, ◌∙◌, arith}
use Rattle.acas_spec.specs.Model.{GridData, states}
use Rattle.acas_grid.specs.Grid.{state_number}
use Rattle.acas_units.specs.declared.pair.Entry.{Entry}
use Rattle.acas_sweep.specs.Best.{entry_at}
use Rattle.acas_sweep.proofs.Over.{elsewhere_next, written_next}
use Rattle.acas_plain.proofs.vertex.fill_vertex.Goals as goal

pub loop-present-preserved : goal.loop-present-preserved
loop-present-preserved c =
    let g = c.args.model.now.grid in
    let present = c.loop-present.present in
    let so_far = c.loop-present.invariant in
    let e : Entry = entry_at c.args.entries.now present in
    let state : c.state_number-state.result ≡ state_number g present c.args.vertex = c.state_number-state.ensures.value ∙ ap (λ (h : GridData). state_number h present c.args.vertex) c.grid-in-loop-present.ensures.value in
    let below : state_number g present c.args.vertex < states g = rw (← state, ← c.grid-in-loop-present.ensures.value) c.state_number-state.ensures.below in
    record {
      written = rw (state, c.from.ensures) (written_next g c.args.entries.now c.args.vertex present c.loop-present.pairs c.loop-present.advice c.requires.vertex (omega arith) (omega arith) so_far.written);
      others = rw (state, c.from.ensures) (elsewhere_next g c.args.vertex present c.args.pairs.now c.args.advice.now c.loop-present.pairs c.loop-present.advice e c.requires.vertex so_far.others);
    }
