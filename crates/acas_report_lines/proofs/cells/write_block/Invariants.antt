use Rattle.std.proofs.Common.{◌∷◌, []}
use Rattle.acas_outside.specs.Frame.{Emits}
use Rattle.acas_cells.specs.Cells.{below, cell_at, plane_cells, row_cells}
use Rattle.acas_report_lines.specs.Plan.{Wrote, progress}
use Rattle.acas_report_lines.specs.Plans.{plan_of}
use Rattle.acas_report_lines.proofs.cells.write_block.Given as goal

abbrev pub invariant-loop-i : goal.invariant-loop-i
invariant-loop-i g l = record {
  wrote : Wrote (plan_of l.audit) (progress (g.S.Sink.written l.initial.sink) l.initial.pen) (progress (g.S.Sink.written l.sink) l.pen) (below l.i (λ i. plane_cells l.audit.model.now l.n l.present i));
  frame : Emits g.S.Sink l.initial.sink l.sink ⊥;
}

abbrev pub invariant-loop-j : goal.invariant-loop-j
invariant-loop-j g l = record {
  wrote : Wrote (plan_of l.audit) (progress (g.S.Sink.written l.initial.sink) l.initial.pen) (progress (g.S.Sink.written l.sink) l.pen) (below l.j (λ j. row_cells l.audit.model.now l.n l.present l.i j));
  frame : Emits g.S.Sink l.initial.sink l.sink ⊥;
}

abbrev pub invariant-loop-k : goal.invariant-loop-k
invariant-loop-k g l = record {
  wrote : Wrote (plan_of l.audit) (progress (g.S.Sink.written l.initial.sink) l.initial.pen) (progress (g.S.Sink.written l.sink) l.pen) (below l.k (λ k. cell_at l.n l.present l.i l.j k ∷ []));
  frame : Emits g.S.Sink l.initial.sink l.sink ⊥;
}
