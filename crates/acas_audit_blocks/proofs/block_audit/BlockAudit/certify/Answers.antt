use Rattle.std.proofs.Common.{◌≡◌, ℕ, subst, arith}
use Rattle.acas_audit_blocks.specs.Audits.{IsRuledIn}
use Rattle.acas_audit_blocks.proofs.Moved.{block_after, ruled_next_plane, ruled_nothing}
use Rattle.acas_audit_blocks.proofs.block_audit.BlockAudit.certify.Goals as goal

pub loop-i-init : goal.loop-i-init
loop-i-init c =
    let b = c.args.block.now in
    record { ruled = ruled_nothing c.args.advice (record b { i1 = b.i0 }) c.args.self.now c.requires.sets (λ i j k h. omega (arith, h.from_i, h.before_i)) }

pub certify_at-requires-clause-sets : goal.certify_at-requires-clause-sets
certify_at-requires-clause-sets c = c.loop-i.invariant.ruled.sets

pub certify_at-requires-clause-block : goal.certify_at-requires-clause-block
certify_at-requires-clause-block c = block_after _ _ c.args.block.now c.loop-i.invariant.ruled.same c.requires.block

pub loop-i-preserved : goal.loop-i-preserved
loop-i-preserved c = record {
  ruled = ruled_next_plane c.args.advice c.args.block.now c.loop-i.i c.args.self.now c.loop-i.self c.certify_at.new.self c.requires.block
      (omega (arith, c.loop-i.auto.i)) (omega (arith, c.loop-i-test.true, c.loop-i.auto.i-end)) c.loop-i.invariant.ruled c.certify_at.ensures;
}

pub returns : goal.returns
returns c =
    let b = c.args.block.now in
    let ends : c.loop-i.i ≡ b.i1 = omega (arith, c.loop-i-test.false, c.loop-i.auto.i-end, c.requires.block.some.i) in
    subst (λ (x : ℕ). IsRuledIn (λ i j k. ⊥) c.args.advice (record b { i1 = x }) c.args.self.now c.loop-i.self) ends c.loop-i.invariant.ruled
