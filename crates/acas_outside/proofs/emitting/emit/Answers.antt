use Rattle.std.proofs.Common.{arith}
use Rattle.acas_outside.proofs.Appended.{appends_more}
use Rattle.acas_outside.proofs.emitting.emit.Goals as goal

pub loop-at-preserved : goal.loop-at-preserved
loop-at-preserved g c = record {
  within = grind (arith, c.in_ok-count.ensures.bound);
  appended = appends_more _ _ _ c.args.bytes.now c.loop-at.at c.in_ok-count.count c.loop-at.invariant.appended c.in_ok-count.ensures.ok;
  frame = grind arith;
}
