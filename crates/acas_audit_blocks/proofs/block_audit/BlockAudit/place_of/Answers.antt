use Rattle.std.proofs.Common.{arith}
use Rattle.std.proofs.lemmas.Grind.{common_steps}
use Rattle.acas_audit_blocks.proofs.block_audit.BlockAudit.place_of.Goals as goal

pub returns : goal.returns
returns c = grind (arith, common_steps)
