use Rattle.acas_outside.specs.MemoryFolder.{folder_state}
use Rattle.acas_table_rows.specs.TableFile.{compiled_text}
use Rattle.acas_drill.specs.declared.table.TheConstants.{TABLE}
use Rattle.acas_drill.proofs.Tables.{held}
use Rattle.acas_drill.proofs.table.drill_table.Goals as goal

pub accepted_advices-requires-clause-held : goal.accepted_advices-requires-clause-held
accepted_advices-requires-clause-held g c =
    held (folder_state c.in_ok-folder.folder).files (folder_state c.store_swept.new.folder).files TABLE.now
    (compiled_text c.args.found.now.digest c.args.found.now.model) c.in-Ok.ensures.ok
