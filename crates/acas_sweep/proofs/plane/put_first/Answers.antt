use Rattle.std.proofs.Common.{◌≡◌, ◌%◌, ap, replicate, subst, ◌∙◌, arith, ℕ, ◌+◌}
use Rattle.std.proofs.lemmas.List.{get_or-replicate}
use Rattle.std.proofs.lemmas.Nat.{mod_below}
use Rattle.acas_spec.specs.Model.{GridData, vertices}
use Rattle.acas_grid.proofs.Vertices.{some_width}
use Rattle.acas_sweep.specs.Filled.{IsFilledTo, pairs_in}
use Rattle.acas_sweep.specs.Turns.{turn}
use Rattle.acas_sweep.proofs.Placed.{first_next}
use Rattle.acas_sweep.proofs.Turns.{turn-below}
use Rattle.acas_sweep.proofs.plane.put_first.Goals as goal

pub loop-count-preserved : goal.loop-count-preserved
loop-count-preserved c =
    let m = c.args.model.now in
    let v = c.vertex_after-vertex.result in
    let k = c.loop-count.count in
    let same = c.grid-in-loop-count.ensures.value in
    let turn_is : turn m.grid v ≡ k = rw same at c.vertex_after-vertex.ensures.turn in
    record {
      first = first_next m v k (replicate 16 c.terminal_entry-entries.result) c.terminal_entry-entries.result (pairs_in c.loop-count.block.work) c.loop-count.advice (pairs_in c.put_vertex.new.block.work) c.put_vertex.new.advice (rw same at c.vertex_after-vertex.ensures.below) turn_is c.loop-count.invariant.first (λ p known. grind (arith, get_or-replicate)) c.terminal_entry-entries.ensures c.put_vertex.ensures.written c.put_vertex.ensures.others;
      filled = subst (λ (t : ℕ). IsFilledTo m.grid (t + 1) 0 c.put_vertex.new.block) turn_is c.put_vertex.ensures.filled;
    }

pub returns-clause-entries : goal.returns-clause-entries
returns-clause-entries c s inside =
    let g = c.args.model.now.grid in
    let place = turn-below g (s % vertices g) (mod_below s (vertices g) (some_width g.advisories (vertices g) s inside)) in
    let end = c.vertices-count-end.ensures.value ∙ ap (λ (h : GridData). vertices h) c.grid.ensures.value in
    c.loop-count.invariant.first s inside (omega (arith, place, end, c.loop-count-test.false))
