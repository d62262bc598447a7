use Rattle.std.proofs.Common.{◌≡◌, ◌≤◌}
use Rattle.acas_cells.specs.Cells.{Cell}
use Rattle.acas_outside.specs.Frame.{Emits}
use Rattle.acas_outside.specs.Printing.{Prints, below}
use Rattle.acas_safeable.specs.Outlooks.{AreOutlooks}
use Rattle.acas_safeable.specs.SafeableText.{cell_text}
use Rattle.acas_safeable.specs.Walk.{cells_below, counts_in, numbered_cell, total}
use Rattle.acas_safeable.specs.declared.outlook.Outlook.{Outlook}
use Rattle.acas_safeable.proofs.cells.write_cells.Given as goal

abbrev pub invariant-loop-number : goal.invariant-loop-number
invariant-loop-number g l = record {
  few : total l.counts ≤ l.number;
  counted : (found : Cell → Outlook) → AreOutlooks l.model l.advices found → l.counts ≡ counts_in l.model l.advices found (cells_below l.model l.number);
  printed : (found : Cell → Outlook) → AreOutlooks l.model l.advices found →
      Prints (g.S.Sink.written l.initial.sink) (g.S.Sink.written l.sink) l.initial.pen.buffer l.pen.buffer (below l.number (λ number. cell_text l.model l.advices found (numbered_cell l.model number)));
  frame : Emits g.S.Sink l.initial.sink l.sink ⊥;
}
