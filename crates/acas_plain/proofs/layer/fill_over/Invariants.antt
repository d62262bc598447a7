use Rattle.std.proofs.Common.{◌≡◌, ◌+◌, ◌*◌}
use Rattle.acas_means.specs.Choices.{choice_count}
use Rattle.acas_sweep.specs.Entries.{AreOver}
use Rattle.acas_plain.proofs.layer.fill_over.Given as goal

abbrev pub invariant-loop-written : goal.invariant-loop-written
invariant-loop-written l = record {
  over : AreOver l.model l.below l.written l.pairs l.advice;
  counted : l.count ≡ l.initial.count + l.written * choice_count l.model;
}
