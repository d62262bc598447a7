use Rattle.acas_audit_blocks.proofs.Halves.{sides}
use Rattle.acas_audit_blocks.proofs.block_audit.BlockAudit.+decide_block.Given as goal

abbrev pub decreases-decide_block : goal.decreases-decide_block
decreases-decide_block l = sides l.block.now
