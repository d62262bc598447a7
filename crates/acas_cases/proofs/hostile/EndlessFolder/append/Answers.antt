use Rattle.std.proofs.Common.{Some, []}
use Rattle.acas_outside.specs.MemoryFolder.{folder_state}
use Rattle.acas_outside.proofs.Grown.{held_stored}
use Rattle.acas_cases.proofs.hostile.EndlessFolder.append.Goals as goal

pub append-requires-2 : goal.append-requires-2
append-requires-2 c = record { held = held_stored (Some (folder_state c.args.self.now.files).files) _ c.args.name.now [] c.in_ok-create.ensures.ok }
