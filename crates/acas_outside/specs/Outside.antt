-- A folder and an output at one moment.
use Rattle.std.specs.Prelude.{ℕ, List, Option}
use Rattle.acas_outside.specs.Files.{Files}
use Rattle.acas_outside.specs.declared.folder.Folder.{Ghosts as FolderMeanings}
use Rattle.acas_outside.specs.declared.sink.Sink.{Ghosts as SinkMeanings}

-- what is told of a folder and of an output, and their counts
pub record Outside : Type 0 where
  pub holds : Option Files
  pub misses : ℕ
  pub taken : ℕ
  pub faults : ℕ
  pub written : Option (List ℕ)
  pub output_faults : ℕ

-- the same, by what the folder's type and the output's type mean
abbrev pub outside : {F O : Type 0} → FolderMeanings F → SinkMeanings O → F → O → Outside
outside f o folder out = record {
  holds = f.holds folder;
  misses = f.misses folder;
  taken = f.taken folder;
  faults = f.faults folder;
  written = o.written out;
  output_faults = o.faults out;
}
