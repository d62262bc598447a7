-- A pen that takes the layers of a sweep.
use Rattle.std.specs.Prelude.{◌≡◌, ◌++◌, ⊤}
use Rattle.acas_outside.specs.Bytes.{AppendsPart}
use Rattle.acas_outside.specs.Frame.{Emits}
use Rattle.acas_outside.specs.declared.sink.Sink.{Ghosts as SinkMeanings}
use Rattle.acas_outside.specs.Printing.{Prints}
use Rattle.acas_sweep.specs.Handed.{LayerData}
use Rattle.acas_table_rows.specs.ValuesText.{listed_lines}
use Rattle.acas_table_rows.specs.declared.line_rows.LineRows.{LineRows}

module _ {O : Type 0} (o : SinkMeanings O) where
  -- the pen printed the lines of a layer
  pub record AddsLines (before : LineRows O) (layer : LayerData) (after : LineRows O) : Type 0 where
    pub same_pen : after.pen.ghost_name ≡ before.pen.ghost_name
    pub same_out : after.out.ghost_name ≡ before.out.ghost_name
    pub model : after.model.now ≡ before.model.now
    pub printed : Prints (o.written before.out.now) (o.written after.out.now) before.pen.now.buffer after.pen.now.buffer (listed_lines before.model.now layer)
    pub frame : Emits o before.out.now after.out.now ⊥

  -- it printed them in part
  pub record CutsLines (before : LineRows O) (layer : LayerData) (after : LineRows O) : Type 0 where
    pub same_pen : after.pen.ghost_name ≡ before.pen.ghost_name
    pub same_out : after.out.ghost_name ≡ before.out.ghost_name
    pub printed : AppendsPart (o.written before.out.now) (o.written after.out.now) (before.pen.now.buffer ++ listed_lines before.model.now layer)
    pub frame : Emits o before.out.now after.out.now ⊤
