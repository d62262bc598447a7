-- What a call leaves as it was, over every folder and every sink.
use Rattle.std.specs.Prelude.{◌≡◌, ◌≤◌}
use Rattle.acas_outside.specs.Counts.{Rose}
use Rattle.acas_outside.specs.declared.folder.Folder.{Ghosts as FolderMeanings}
use Rattle.acas_outside.specs.declared.sink.Sink.{Ghosts as SinkMeanings}

-- A call that only reads: files and served names stay, and no count falls.
-- It failed only where faults rose, and found a name absent only where misses rose.
pub record OnlyReads {F : Type 0} (d : FolderMeanings F) (old new : F) (failed absent : Type 0) : Type 0 where
  pub holds : d.holds new ≡ d.holds old
  pub serves : d.serves new ≡ d.serves old
  pub faults : d.faults old ≤ d.faults new
  pub misses : d.misses old ≤ d.misses new
  pub taken : d.taken old ≤ d.taken new
  pub fault : failed → Rose (d.faults old) (d.faults new)
  pub miss : absent → Rose (d.misses old) (d.misses new)

-- A call that only writes: served names and the counts of reads stay, and faults do not fall.
-- It failed only where faults rose.
pub record OnlyWrites {F : Type 0} (d : FolderMeanings F) (old new : F) (failed : Type 0) : Type 0 where
  pub serves : d.serves new ≡ d.serves old
  pub misses : d.misses new ≡ d.misses old
  pub taken : d.taken new ≡ d.taken old
  pub faults : d.faults old ≤ d.faults new
  pub fault : failed → Rose (d.faults old) (d.faults new)

-- A call that reads and writes: served names stay, and no count falls. It failed only where faults rose.
pub record ReadsAndWrites {F : Type 0} (d : FolderMeanings F) (old new : F) (failed : Type 0) : Type 0 where
  pub serves : d.serves new ≡ d.serves old
  pub faults : d.faults old ≤ d.faults new
  pub misses : d.misses old ≤ d.misses new
  pub taken : d.taken old ≤ d.taken new
  pub fault : failed → Rose (d.faults old) (d.faults new)

-- A call that writes to a sink: faults do not fall, and it failed only where they rose.
pub record Emits {S : Type 0} (d : SinkMeanings S) (old new : S) (failed : Type 0) : Type 0 where
  pub faults : d.faults old ≤ d.faults new
  pub fault : failed → Rose (d.faults old) (d.faults new)
