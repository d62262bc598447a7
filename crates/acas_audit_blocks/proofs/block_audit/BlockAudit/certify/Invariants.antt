use Rattle.acas_audit_blocks.specs.Audits.{IsRuledIn}
use Rattle.acas_audit_blocks.proofs.block_audit.BlockAudit.certify.Given as goal

abbrev pub invariant-loop-i : goal.invariant-loop-i
invariant-loop-i l = record { ruled : IsRuledIn (λ i j k. ⊥) l.advice (record l.block { i1 = l.i }) l.fn.self l.self }
