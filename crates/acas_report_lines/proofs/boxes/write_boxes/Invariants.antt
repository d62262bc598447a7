use Rattle.std.proofs.Common.{◌∷◌, []}
use Rattle.acas_outside.specs.Frame.{Emits}
use Rattle.acas_cells.specs.Cells.{below}
use Rattle.acas_report_lines.specs.Plan.{Wrote, box_plan, progress}
use Rattle.acas_report_lines.proofs.boxes.write_boxes.Given as goal

abbrev pub invariant-loop-place : goal.invariant-loop-place
invariant-loop-place g l = record {
  wrote : Wrote (box_plan (g.R.BoxSource.rules l.on.rulings.now l.on.model.now) g.R.Ruling.Said.certified g.R.Ruling.Said.text l.on.boxes.now) (progress (g.S.Sink.written l.initial.sink) l.initial.pen) (progress (g.S.Sink.written l.sink) l.pen) (below l.place (λ place. place ∷ []));
  frame : Emits g.S.Sink l.initial.sink l.sink ⊥;
}
