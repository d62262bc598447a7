use Rattle.std.proofs.Common.{◌+◌, ◌≤◌, ap, arith}
use Rattle.std.proofs.Math.Nat.{mul-le-mul_right}
use Rattle.acas_spec.specs.Model.{GridData, vertices}
use Rattle.acas_means.specs.Choices.{choice_count}
use Rattle.acas_sweep.proofs.Over.{over_next, small_within}
use Rattle.acas_plain.proofs.layer.fill_over.Goals as goal

pub entries_at-entries-requires-clause-small : goal.entries_at-entries-requires-clause-small
entries_at-entries-requires-clause-small c = small_within c.args.below.now c.requires.below.small

pub entries_at-entries-requires-clause-count : goal.entries_at-entries-requires-clause-count
entries_at-entries-requires-clause-count c =
    let here : c.loop-written.written + 1 ≤ vertices c.args.model.now.grid = omega (arith, c.loop-written-test.true, c.vertices-written-end.ensures.value, ap (λ (g : GridData). vertices g) c.grid.ensures.value) in
    omega (arith, c.loop-written.invariant.counted, c.requires.count, mul-le-mul_right (choice_count c.args.model.now) here)

pub loop-written-preserved : goal.loop-written-preserved
loop-written-preserved c =
    let m = c.args.model.now in
    let same = c.grid-in-loop-written.ensures.value in
    record {
      over = over_next m c.args.below.now c.entries_at-entries.result c.vertex_after-vertex.result c.loop-written.written c.loop-written.pairs c.loop-written.advice c.fill_vertex.new.pairs c.fill_vertex.new.advice
          (rw same at c.vertex_after-vertex.ensures.below) (rw same at c.vertex_after-vertex.ensures.turn) c.entries_at-entries.ensures.entries c.loop-written.invariant.over c.fill_vertex.ensures.written c.fill_vertex.ensures.others;
      counted = omega (arith, c.loop-written.invariant.counted, c.entries_at-entries.ensures.count);
    }
