-- What a sweep over all layers of a compiled table does.
use Rattle.std.specs.Prelude.{◌≡◌, ℕ, ◌+◌, ◌≤◌, Result, OnOk, OnErr}
use Rattle.acas_spec.specs.Model.{ModelData, entries}
use Rattle.acas_outside.specs.Counts.{Rose}
use Rattle.acas_sweep.specs.Handed.{AddsBelow, CutBelow, compiled_layer}
use Rattle.acas_sweep.specs.Layers.{backup_count}
use Rattle.acas_sweep.specs.declared.sink.LayerSink.{Ghosts as SinkMeanings}

-- all layers are added to a sink, or where it fails those below some number, and the layer of that number in part
pub record HandsTable {S X E : Type 0} (d : SinkMeanings S) (m : ModelData) (old new : S) (result : Result X E)
    : Type 0 where
  pub ok : OnOk result (AddsBelow d.adds (compiled_layer m) old (m.grid.horizon + 1) new)
  pub err : OnErr result (CutBelow d.adds (compiled_layer m) d.cuts old (m.grid.horizon + 1) new)
  pub failed : OnErr result (Rose (d.faults old) (d.faults new))
  pub faults : d.faults old ≤ d.faults new

-- a sweep to the end raises the first counter by the model's backups and the second by its entries; neither ever falls
pub record RaisesCounts {X E : Type 0} (m : ModelData) (backups backups' turned turned' : ℕ) (result : Result X E)
    : Type 0 where
  pub counted : OnOk result (backups' ≡ backups + backup_count m)
  pub turns : OnOk result (turned' ≡ turned + entries m.grid)
  pub rising : backups ≤ backups'
  pub rising_turned : turned ≤ turned'
