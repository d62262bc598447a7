use Rattle.std.proofs.Common.{◌≡◌, ◌+◌, ◌*◌, length}
use Rattle.acas_means.specs.Choices.{choice_count}
use Rattle.acas_sweep.specs.Entries.{AreOver}
use Rattle.acas_sweep.specs.Filled.{IsFilledTo, pairs_in}
use Rattle.acas_sweep.proofs.plane.put_over.Given as goal

abbrev pub invariant-loop-column : goal.invariant-loop-column
invariant-loop-column g l = record {
  over : AreOver l.model l.initial.block.finished (l.column * length l.model.grid.h) (pairs_in l.block.work) l.advice;
  filled : IsFilledTo l.model.grid (l.column * length l.model.grid.h) 0 l.block;
  finished : l.block.finished ≡ l.initial.block.finished;
  counted : l.count ≡ l.initial.count + l.column * length l.model.grid.h * choice_count l.model;
}
