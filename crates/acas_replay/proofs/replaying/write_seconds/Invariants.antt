use Rattle.acas_outside.specs.Frame.{Emits}
use Rattle.acas_outside.specs.Printing.{Prints, below}
use Rattle.acas_replay.specs.Flown.{HasFlown}
use Rattle.acas_replay.specs.Replay.{Course, IsCourse, second_line}
use Rattle.acas_replay.proofs.replaying.write_seconds.Given as goal

abbrev pub invariant-loop-second : goal.invariant-loop-second
invariant-loop-second g l = record {
  flown : HasFlown l.replayed.model.now l.replayed.advices.now l.replayed.encounter.now l.second l.at;
  printed : (c : Course) → IsCourse l.replayed.model.now l.replayed.advices.now l.replayed.encounter.now c →
      Prints (g.S.Sink.written l.initial.sink) (g.S.Sink.written l.sink) l.initial.pen.buffer l.pen.buffer (below l.second (second_line l.replayed.model.now l.replayed.encounter.now c));
  frame : Emits g.S.Sink l.initial.sink l.sink ⊥;
}
