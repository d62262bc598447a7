use Rattle.std.proofs.Common.{◌≡◌, ℕ, subst, arith}
use Rattle.acas_audit_blocks.specs.Audits.{AreMoved}
use Rattle.acas_audit_blocks.proofs.Moved.{moved_next, moved_none}
use Rattle.acas_audit_blocks.proofs.moving.move_row.Goals as goal

pub loop-place-init : goal.loop-place-init
loop-place-init c = record { moved = moved_none c.args.advice c.args.start c.args.start c.args.list.now (omega arith) }

pub loop-place-preserved : goal.loop-place-preserved
loop-place-preserved c = record {
  moved = moved_next c.args.advice c.args.start c.loop-place.place c.args.list.now c.loop-place.list c.moved.result
      (omega (arith, c.loop-place.auto.place)) (omega (arith, c.loop-place-test.true, c.requires.within)) c.loop-place.invariant.moved c.moved.ensures;
}

pub returns : goal.returns
returns c =
    let ends : c.loop-place.place ≡ c.args.end = omega (arith, c.loop-place-test.false, c.loop-place.auto.place-end, c.requires.order) in
    subst (λ (x : ℕ). AreMoved c.args.advice c.args.start x c.args.list.now c.loop-place.list) ends c.loop-place.invariant.moved
