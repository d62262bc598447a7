use Rattle.acas_outside.specs.Frame.{Emits}
use Rattle.acas_outside.specs.Printing.{Prints, below}
use Rattle.acas_table_rows.specs.Heads.{HasHead}
use Rattle.acas_table_rows.specs.LayerParts.{layer_data}
use Rattle.acas_table_rows.specs.ValuesText.{listed_line}
use Rattle.acas_table_rows.proofs.table_lines.print_layer.Given as goal

abbrev pub invariant-loop-state : goal.invariant-loop-state
invariant-loop-state g l = record {
  printed : Prints (g.O.Sink.written l.initial.out) (g.O.Sink.written l.out) l.initial.pen.buffer l.pen.buffer (below l.state (listed_line l.model (layer_data l.layer)));
  frame : Emits g.O.Sink l.initial.out l.out ⊥;
  head : HasHead l.model l.layer.n l.state l.pen.head;
}
