use Rattle.std.proofs.Common.{◌≡◌, ℕ, ◌+◌, subst, arith}
use Rattle.acas_audit_blocks.specs.Audits.{IsRuledIn}
use Rattle.acas_audit_blocks.proofs.Moved.{block_after, ruled_next_row, ruled_nothing}
use Rattle.acas_audit_blocks.proofs.block_audit.BlockAudit.certify_at.Goals as goal

pub loop-j-init : goal.loop-j-init
loop-j-init c =
    let b = c.args.block.now in
    record {
      ruled = ruled_nothing c.args.advice (record b { i0 = c.args.i; i1 = c.args.i + 1; j1 = b.j0 }) c.args.self.now c.requires.sets (λ i j k h. omega (arith, h.from_j, h.before_j));
    }

pub certify_row-requires-clause-sets : goal.certify_row-requires-clause-sets
certify_row-requires-clause-sets c = c.loop-j.invariant.ruled.sets

pub certify_row-requires-clause-block : goal.certify_row-requires-clause-block
certify_row-requires-clause-block c = block_after _ _ c.args.block.now c.loop-j.invariant.ruled.same c.requires.block

pub loop-j-preserved : goal.loop-j-preserved
loop-j-preserved c = record {
  ruled = ruled_next_row c.args.advice c.args.block.now c.args.i c.loop-j.j c.args.self.now c.loop-j.self c.certify_row.new.self c.requires.block c.requires.before
      (omega (arith, c.loop-j.auto.j)) (omega (arith, c.loop-j-test.true, c.loop-j.auto.j-end)) c.loop-j.invariant.ruled c.certify_row.ensures;
}

pub returns : goal.returns
returns c =
    let b = c.args.block.now in
    let ends : c.loop-j.j ≡ b.j1 = omega (arith, c.loop-j-test.false, c.loop-j.auto.j-end, c.requires.block.some.j) in
    subst (λ (x : ℕ). IsRuledIn (λ i j k. ⊥) c.args.advice (record b { i0 = c.args.i; i1 = c.args.i + 1; j1 = x }) c.args.self.now c.loop-j.self) ends c.loop-j.invariant.ruled
