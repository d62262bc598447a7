use Rattle.std.proofs.Common.{◌≡◌, ℕ, ◌+◌, ◌*◌, ◌<◌, length, ap, subst, sym, ◌∙◌, arith}
use Rattle.std.proofs.lemmas.Grind.{common_steps}
use Rattle.acas_spec.specs.Model.{GridData}
use Rattle.acas_grid.specs.States.{vertex_at}
use Rattle.acas_sweep.specs.Best.{AreVertexEntries, entries_in}
use Rattle.acas_means.specs.Columns.{vertex_in}
use Rattle.acas_sweep.specs.Entries.{AreOver}
use Rattle.acas_sweep.specs.Filled.{IsFilledTo, pairs_in}
use Rattle.acas_sweep.specs.Turns.{turn}
use Rattle.acas_sweep.proofs.Over.{over_next}
use Rattle.acas_sweep.proofs.Turns.{turn-vertex_in}
use Rattle.acas_sweep.proofs.plane.put_column.Goals as goal

pub loop-i-init : goal.loop-i-init
loop-i-init c = grind (arith, common_steps)

pub put_vertex-requires-clause-filled : goal.put_vertex-requires-clause-filled
put_vertex-requires-clause-filled c =
    let g = c.args.model.now.grid in
    let vertex : c.vertex_in_column-vertex.result ≡ vertex_in g c.args.column c.loop-i.i = rw c.grid-grid.ensures.value at c.vertex_in_column-vertex.ensures.value in
    subst (λ (t : ℕ). IsFilledTo g t 0 c.loop-i.block) (sym (ap (turn g) vertex ∙ turn-vertex_in g c.args.column c.loop-i.i c.requires.column)) c.loop-i.invariant.filled

pub loop-i-preserved : goal.loop-i-preserved
loop-i-preserved c =
    let m = c.args.model.now in
    let i = c.loop-i.i in
    let v = c.vertex_in_column-vertex.result in
    let so_far = c.loop-i.invariant in
    let here : i < length m.grid.h = omega (arith, c.loop-i-test.true, c.len-i-end.ensures.value, ap (λ (g : GridData). length g.h) (c.grid.view_is ∙ c.grid-grid.ensures.value)) in
    let vertex : v ≡ vertex_in m.grid c.args.column i = rw c.grid-grid.ensures.value at c.vertex_in_column-vertex.ensures.value in
    let turn_is : turn m.grid v ≡ c.args.column * length m.grid.h + i = ap (turn m.grid) vertex ∙ turn-vertex_in m.grid c.args.column i c.requires.column in
    let are : AreVertexEntries m c.args.block.now.finished (vertex_at m.grid v) (entries_in c.args.entries.now i) =
    subst (λ (w : ℕ). AreVertexEntries m c.args.block.now.finished (vertex_at m.grid w) (entries_in c.args.entries.now i)) (sym vertex) (c.requires.entries.each i here) in
    let next : c.args.column * length m.grid.h + i + 1 ≡ c.args.column * length m.grid.h + (i + 1) = omega arith in
    record {
      over = subst (λ (t : ℕ). AreOver m c.args.block.now.finished t (pairs_in c.put_vertex.new.block.work) c.put_vertex.new.advice) next (over_next m c.args.block.now.finished (entries_in c.args.entries.now i) v (c.args.column * length m.grid.h + i) (pairs_in c.loop-i.block.work) c.loop-i.advice (pairs_in c.put_vertex.new.block.work) c.put_vertex.new.advice
          (rw c.grid-grid.ensures.value at c.vertex_in_column-vertex.ensures.below) turn_is are so_far.over c.put_vertex.ensures.written c.put_vertex.ensures.others);
      filled = subst (λ (t : ℕ). IsFilledTo m.grid t 0 c.put_vertex.new.block) (ap (λ (t : ℕ). t + 1) turn_is ∙ next) c.put_vertex.ensures.filled;
      finished = c.put_vertex.ensures.finished ∙ so_far.finished;
    }

pub returns-clause-over : goal.returns-clause-over
returns-clause-over c = grind (arith, common_steps)

pub returns-clause-filled : goal.returns-clause-filled
returns-clause-filled c = grind (arith, common_steps)
