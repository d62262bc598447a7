use Rattle.std.proofs.Common.{Err, ap, ◌∙◌}
use Rattle.std.specs.FinMap.{get}
use Rattle.acas_outside.specs.MemoryFolder.{folder_state}
use Rattle.acas_drill.specs.declared.table.TheConstants.{TABLE}
use Rattle.acas_drill.proofs.Tables.{accepted_tabled, never_refused}
use Rattle.acas_drill.proofs.table.accepted_advices.Goals as goal

pub unreachable-requires-in-Err-Refused : goal.unreachable-requires-in-Err-Refused
unreachable-requires-in-Err-Refused g c =
    let is = c.in-Err-Refused.is ∙ ap Err c.in-Err-Refused.field-0-is in
    never_refused c.args.found.now.model c.args.found.now.digest (get (folder_state c.args.folder.now).files TABLE.now) c.requires.held c.grid.ensures.valid c.requires.digest
    c.accept.result c.in-Err-Refused.field-0-0 c.accept.ensures.given is

pub returns-in-Ok-clause-tabled : goal.returns-in-Ok-clause-tabled
returns-in-Ok-clause-tabled g c =
    accepted_tabled c.args.found.now.model c.args.found.now.digest (get (folder_state c.args.folder.now).files TABLE.now) c.requires.held c.grid.ensures.valid c.requires.digest
    c.accept.result c.in-Ok.advices c.accept.ensures.given c.in-Ok.is
