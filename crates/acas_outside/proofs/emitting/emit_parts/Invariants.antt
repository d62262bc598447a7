use Rattle.std.proofs.Common.{take}
use Rattle.acas_outside.specs.Bytes.{Appends, joined}
use Rattle.acas_outside.specs.Frame.{Emits}
use Rattle.acas_outside.proofs.emitting.emit_parts.Given as goal

abbrev pub invariant-loop-part : goal.invariant-loop-part
invariant-loop-part g l = record {
  appended : Appends (g.S.Sink.written l.initial.sink) (g.S.Sink.written l.sink) (joined (take l.part-index l.parts));
  frame : Emits g.S.Sink l.initial.sink l.sink ⊥;
}
