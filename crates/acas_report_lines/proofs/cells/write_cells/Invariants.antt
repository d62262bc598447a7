use Rattle.std.proofs.Common.{◌≡◌, ℕ, ◌+◌, ◌*◌, ◌≤◌}
use Rattle.acas_outside.specs.Frame.{Emits}
use Rattle.acas_cells.specs.Cells.{below, block_cells, layer_cells}
use Rattle.acas_cells.specs.DecisionCounts.{IsSumBelow, most_decisions}
use Rattle.acas_report_lines.specs.Plan.{Wrote, progress}
use Rattle.acas_report_lines.specs.Blocks.{IsLayerPrepared}
use Rattle.acas_report_lines.specs.Plans.{plan_of}
use Rattle.acas_report_lines.proofs.cells.write_cells.Given as goal

abbrev pub invariant-loop-n : goal.invariant-loop-n
invariant-loop-n g l = record {
  wrote : Wrote (plan_of l.audit) (progress (g.S.Sink.written l.initial.sink) l.initial.pen) (progress (g.S.Sink.written l.sink) l.pen) (below l.n (layer_cells l.audit.model.now));
  frame : Emits g.S.Sink l.initial.sink l.sink ⊥;
  fits : g.R.Rulings.fits l.rulings l.audit.model.now;
  counted : (number : ℕ) × IsSumBelow (λ n layer. IsLayerPrepared g.R.Rulings.takes l.audit.model.now l.audit.advices.now n layer) l.n number × (l.count ≡ l.initial.count + number);
  most : l.count ≤ l.initial.count + l.n * (l.audit.model.now.grid.advisories * most_decisions l.audit.model.now);
}

abbrev pub invariant-loop-present : goal.invariant-loop-present
invariant-loop-present g l = record {
  wrote : Wrote (plan_of l.audit) (progress (g.S.Sink.written l.initial.sink) l.initial.pen) (progress (g.S.Sink.written l.sink) l.pen) (below l.present (λ present. block_cells l.audit.model.now l.n present));
  frame : Emits g.S.Sink l.initial.sink l.sink ⊥;
  fits : g.R.Rulings.fits l.rulings l.audit.model.now;
  counted : (number : ℕ) × IsSumBelow (λ present part. g.R.Rulings.takes l.audit.model.now l.audit.advices.now l.n present part) l.present number × (l.count ≡ l.initial.count + number);
  most : l.count ≤ l.initial.count + l.present * most_decisions l.audit.model.now;
}
