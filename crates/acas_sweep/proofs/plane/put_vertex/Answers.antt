use Rattle.std.proofs.Common.{◌≡◌, ℕ, ◌<◌, length, set, ap, ◌∙◌, arith}
use Rattle.std.proofs.lemmas.Grind.{common_steps}
use Rattle.acas_spec.specs.Model.{GridData, states}
use Rattle.acas_grid.specs.Grid.{state_number}
use Rattle.acas_units.specs.declared.pair.Entry.{Entry}
use Rattle.acas_plane.specs.Plane.{Plane, with_pair}
use Rattle.acas_sweep.specs.Best.{entry_at}
use Rattle.acas_sweep.specs.Filled.{pairs_in}
use Rattle.acas_sweep.proofs.Filled.{filled_next, length-pairs_in, next_free, pairs_in-set}
use Rattle.acas_sweep.proofs.Over.{elsewhere_next, written_next}
use Rattle.acas_sweep.proofs.plane.put_vertex.Goals as goal

pub put-requires-clause-in_range : goal.put-requires-clause-in_range
put-requires-clause-in_range c = rw (c.loop-present.invariant.filled.state_count, ← c.grid-grid.ensures.value) c.state_among-state.ensures.below

pub put-requires-clause-free : goal.put-requires-clause-free
put-requires-clause-free c =
    let m = c.args.model.now in
    let state : c.state_among-state.result ≡ state_number m.grid c.loop-present.present c.args.vertex = c.state_among-state.ensures.value ∙ ap (λ (g : GridData). state_number g c.loop-present.present c.args.vertex) c.grid-grid.ensures.value in
    let end : c.grid.inside.advisories ≡ m.grid.advisories = ap (λ (g : GridData). g.advisories) (c.grid.view_is ∙ c.grid-grid.ensures.value) in
    rw state (next_free m.grid c.args.vertex c.loop-present.present c.loop-present.block c.requires.vertex (omega (arith, end)) c.loop-present.invariant.filled)

pub bounds-advice-state : goal.bounds-advice-state
bounds-advice-state c = grind (arith, common_steps)

pub loop-present-preserved : goal.loop-present-preserved
loop-present-preserved c =
    let m = c.args.model.now in
    let v = c.args.vertex in
    let present = c.loop-present.present in
    let so_far = c.loop-present.invariant in
    let e : Entry = entry_at c.args.entries.now present in
    let state : c.state_among-state.result ≡ state_number m.grid present v = c.state_among-state.ensures.value ∙ ap (λ (g : GridData). state_number g present v) c.grid-grid.ensures.value in
    let below : state_number m.grid present v < states m.grid = rw (← state, ← c.grid-grid.ensures.value) c.state_among-state.ensures.below in
    let end : c.grid.inside.advisories ≡ m.grid.advisories = ap (λ (g : GridData). g.advisories) (c.grid.view_is ∙ c.grid-grid.ensures.value) in
    let pairs = pairs_in c.loop-present.block.work in
    let put : c.put.new.self ≡ with_pair c.loop-present.block c.state_among-state.result e.pair = c.put.ensures ∙ ap (λ (k : ℕ). with_pair c.loop-present.block c.state_among-state.result (entry_at c.args.entries.now k).pair) c.from.ensures in
    let shown : pairs_in c.put.new.self.work ≡ set pairs (state_number m.grid present v) e.pair =
    ap (λ (b : Plane). pairs_in b.work) put ∙ pairs_in-set c.loop-present.block.work c.state_among-state.result e.pair ∙ ap (λ (i : ℕ). set pairs i e.pair) state in
    let long : state_number m.grid present v < length pairs = omega (arith, below, length-pairs_in c.loop-present.block.work, so_far.filled.place_count) in
    record {
      written = rw (shown, state, c.from.ensures) (written_next m.grid c.args.entries.now v present pairs c.loop-present.advice c.requires.vertex long (omega arith) so_far.written);
      others = rw (shown, state, c.from.ensures) (elsewhere_next m.grid v present (pairs_in c.args.block.now.work) c.args.advice.now pairs c.loop-present.advice e c.requires.vertex so_far.others);
      filled = rw (put, state) (filled_next m.grid v present c.loop-present.block e.pair c.requires.vertex (omega (arith, end)) so_far.filled);
      finished = ap (λ (b : Plane). b.finished) c.put.ensures ∙ so_far.finished;
    }

pub returns-clause-written : goal.returns-clause-written
returns-clause-written c = grind (arith, common_steps)

pub returns-clause-filled : goal.returns-clause-filled
returns-clause-filled c = grind (arith, common_steps)
