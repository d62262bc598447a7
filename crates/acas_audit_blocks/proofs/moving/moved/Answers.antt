use Rattle.acas_audit_blocks.proofs.Ruled.{moved_over}
use Rattle.acas_audit_blocks.proofs.moving.moved.Goals as goal

pub returns : goal.returns
returns c = moved_over c.args.advice c.args.sets _ c.only-there.result c.only-there.ensures c.union.ensures.more c.without.ensures
