-- A folder beside any output.
use Rattle.std.specs.Prelude.{ℕ, List, Option}
use Rattle.acas_outside.specs.Outside.{Outside}
use Rattle.acas_outside.specs.declared.folder.Folder.{Ghosts as FolderMeanings}

-- a folder at one moment, beside an output that tells this and has failed so often
abbrev pub beside : {F : Type 0} → FolderMeanings F → F → Option (List ℕ) → ℕ → Outside
beside f folder written output_faults = record {
  holds = f.holds folder;
  misses = f.misses folder;
  taken = f.taken folder;
  faults = f.faults folder;
  written = written;
  output_faults = output_faults;
}
