use Rattle.std.proofs.Common.{◌+◌, arith}
use Rattle.acas_outside.proofs.Grown.{grows_none, grows_more, held_grown}
use Rattle.acas_outside.proofs.storing.write_piece.Goals as goal

pub loop-at-init : goal.loop-at-init
loop-at-init g c = record {
  within = omega arith;
  held = c.requires.held;
  grown = grows_none _ c.args.name.now c.requires.held;
  frame = grind arith;
}

pub returns-then-count-eq0-clause-err : goal.returns-then-count-eq0-clause-err
returns-then-count-eq0-clause-err g c = record {
  count = c.loop-at.at + c.in_ok-count.count;
  proper = grind (arith, c.if-count-eq0.true);
  grown = grows_more _ _ _ c.args.name.now c.args.bytes.now c.loop-at.at c.in_ok-count.count c.loop-at.invariant.grown c.in_ok-count.ensures.ok;
}

pub loop-at-preserved : goal.loop-at-preserved
loop-at-preserved g c = record {
  within = grind (arith, c.in_ok-count.ensures.bound);
  held = held_grown _ _ c.args.name.now _ c.in_ok-count.ensures.ok;
  grown = grows_more _ _ _ c.args.name.now c.args.bytes.now c.loop-at.at c.in_ok-count.count c.loop-at.invariant.grown c.in_ok-count.ensures.ok;
  frame = grind arith;
}
