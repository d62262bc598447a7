use Rattle.std.proofs.Common.{◌-◌, ◌≤◌, length, take}
use Rattle.acas_outside.specs.Bytes.{Appends}
use Rattle.acas_outside.specs.Frame.{Emits}
use Rattle.acas_outside.proofs.emitting.emit.Given as goal

abbrev pub invariant-loop-at : goal.invariant-loop-at
invariant-loop-at g l = record {
  within : l.at ≤ length l.bytes;
  appended : Appends (g.S.Sink.written l.initial.sink) (g.S.Sink.written l.sink) (take l.at l.bytes);
  frame : Emits g.S.Sink l.initial.sink l.sink ⊥;
}

abbrev pub decreases-loop-at : goal.decreases-loop-at
decreases-loop-at g l = length l.bytes - l.at
