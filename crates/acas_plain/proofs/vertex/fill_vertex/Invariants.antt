use Rattle.acas_sweep.specs.Entries.{AreWritten, SameElsewhere}
use Rattle.acas_plain.proofs.vertex.fill_vertex.Given as goal

abbrev pub invariant-loop-present : goal.invariant-loop-present
invariant-loop-present l = record {
  written : AreWritten l.model.grid l.vertex l.present l.entries l.pairs l.advice;
  others : SameElsewhere l.model.grid l.vertex l.initial.pairs l.initial.advice l.pairs l.advice;
}
