use Rattle.std.proofs.Common.{◌≡◌, ◌+◌, ◌*◌, ◌≤◌, None, length, replicate}
use Rattle.acas_spec.specs.Model.{states}
use Rattle.acas_sweep.specs.Handed.{AddsBelow, compiled_layer}
use Rattle.acas_sweep.specs.Layers.{layer_backups}
use Rattle.acas_sweep.proofs.Below.{ArePairs}
use Rattle.acas_sweep.proofs.stream.sweep.Given as goal

abbrev pub invariant-loop-n : goal.invariant-loop-n
invariant-loop-n g l = record {
  state_count : l.block.states ≡ states l.model.grid;
  work : l.block.work ≡ replicate (states l.model.grid) None;
  below : ArePairs l.model l.n l.block.finished;
  advice_count : length l.advice ≡ states l.model.grid;
  added : AddsBelow g.S.LayerSink.adds (compiled_layer l.model) l.fn.rows (l.n + 1) l.rows;
  left : g.S.LayerSink.left l.rows + l.n ≡ l.model.grid.horizon;
  width : g.S.LayerSink.width l.rows ≡ states l.model.grid;
  later : g.S.LayerSink.faults l.fn.rows ≤ g.S.LayerSink.faults l.rows;
  counted : l.count ≡ l.fn.count + l.n * layer_backups l.model;
  turned : l.turned ≡ l.fn.turned + (l.n + 1) * states l.model.grid;
}
