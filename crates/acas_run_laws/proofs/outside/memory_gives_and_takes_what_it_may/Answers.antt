use Rattle.std.proofs.Common.{◌++◌, [], take, ap, ◌∙◌}
use Rattle.std.specs.Prelude.{unwrap_or}
use Rattle.std.specs.FinMap.{get}
use Rattle.acas_outside.specs.MemoryFolder.{FolderState}
use Rattle.acas_outside.proofs.Inserted.{get-insert_same}
use Rattle.acas_run_laws.proofs.outside.memory_gives_and_takes_what_it_may.Goals as goal

pub returns-clause-appended : goal.returns-clause-appended
returns-clause-appended c = λ old new name piece n h.
    ap (λ (s : FolderState). get s.files name) h.2 ∙ get-insert_same old.files name (unwrap_or (get old.files name) [] ++ take n piece)
