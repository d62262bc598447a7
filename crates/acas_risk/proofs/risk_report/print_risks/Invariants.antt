use Rattle.acas_outside.specs.Frame.{Emits}
use Rattle.acas_outside.specs.Printing.{Prints, below}
use Rattle.acas_risk.specs.RiskText.{risk_line}
use Rattle.acas_risk.specs.Rows.{row_at}
use Rattle.acas_risk.proofs.risk_report.print_risks.Given as goal

abbrev pub invariant-loop-state : goal.invariant-loop-state
invariant-loop-state g l = record {
  printed : Prints (g.S.Sink.written l.initial.sink) (g.S.Sink.written l.sink) l.initial.pen.buffer l.pen.buffer (below l.state (λ s. risk_line l.model s (row_at l.values s)));
  frame : Emits g.S.Sink l.initial.sink l.sink ⊥;
}
