use Rattle.std.proofs.Common.{◌≡◌, ◌+◌, ◌*◌, length}
use Rattle.acas_sweep.specs.Entries.{AreOver}
use Rattle.acas_sweep.specs.Filled.{IsFilledTo, pairs_in}
use Rattle.acas_sweep.proofs.plane.put_column.Given as goal

abbrev pub invariant-loop-i : goal.invariant-loop-i
invariant-loop-i l = record {
  over : AreOver l.model l.initial.block.finished (l.column * length l.model.grid.h + l.i) (pairs_in l.block.work) l.advice;
  filled : IsFilledTo l.model.grid (l.column * length l.model.grid.h + l.i) 0 l.block;
  finished : l.block.finished ≡ l.initial.block.finished;
}
