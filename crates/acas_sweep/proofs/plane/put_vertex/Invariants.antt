use Rattle.std.proofs.Common.{◌≡◌}
use Rattle.acas_sweep.specs.Entries.{AreWritten, SameElsewhere}
use Rattle.acas_sweep.specs.Filled.{IsFilledTo, pairs_in}
use Rattle.acas_sweep.specs.Turns.{turn}
use Rattle.acas_sweep.proofs.plane.put_vertex.Given as goal

abbrev pub invariant-loop-present : goal.invariant-loop-present
invariant-loop-present l = record {
  written : AreWritten l.model.grid l.vertex l.present l.entries (pairs_in l.block.work) l.advice;
  others : SameElsewhere l.model.grid l.vertex (pairs_in l.initial.block.work) l.initial.advice (pairs_in l.block.work) l.advice;
  filled : IsFilledTo l.model.grid (turn l.model.grid l.vertex) l.present l.block;
  finished : l.block.finished ≡ l.initial.block.finished;
}
