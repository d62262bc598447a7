use Rattle.std.proofs.Common.{◌+◌}
use Rattle.acas_audit_blocks.specs.Audits.{IsRuledIn}
use Rattle.acas_audit_blocks.proofs.block_audit.BlockAudit.certify_at.Given as goal

abbrev pub invariant-loop-j : goal.invariant-loop-j
invariant-loop-j l = record { ruled : IsRuledIn (λ i j k. ⊥) l.advice (record l.block { i0 = l.i; i1 = l.i + 1; j1 = l.j }) l.fn.self l.self }
