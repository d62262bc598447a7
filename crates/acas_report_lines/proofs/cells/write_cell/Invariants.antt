use Rattle.std.proofs.Common.{◌∷◌, []}
use Rattle.acas_outside.specs.Frame.{Emits}
use Rattle.acas_cells.specs.Cells.{below}
use Rattle.acas_report_lines.specs.Plan.{Wrote, progress}
use Rattle.acas_report_lines.specs.Plans.{set_plan}
use Rattle.acas_report_lines.proofs.cells.write_cell.Given as goal

abbrev pub invariant-loop-advice : goal.invariant-loop-advice
invariant-loop-advice g l = record {
  wrote : Wrote (set_plan l.audit l.fn.at l.set) (progress (g.S.Sink.written l.initial.sink) l.initial.pen) (progress (g.S.Sink.written l.sink) l.pen) (below l.advice (λ advice. advice ∷ []));
  frame : Emits g.S.Sink l.initial.sink l.sink ⊥;
}
