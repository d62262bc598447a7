use Rattle.std.proofs.Common.{◌≡◌, ℕ, ◌<◌, false}
use Rattle.acas_cells.specs.Blocks.{IsInBlock}
use Rattle.acas_cells.specs.Sets.{holds}
use Rattle.acas_audit_blocks.specs.Audits.{reported_at}
use Rattle.acas_audit_blocks.proofs.block_audit.BlockAudit.waits_at.Given as goal

abbrev pub invariant-loop-j : goal.invariant-loop-j
invariant-loop-j l = record { none : (j k : ℕ) → j < l.j → IsInBlock l.block l.i j k → holds (reported_at l.self l.i j k) l.advice ≡ false }
