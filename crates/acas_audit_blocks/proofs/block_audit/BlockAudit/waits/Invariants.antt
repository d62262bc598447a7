use Rattle.std.proofs.Common.{◌≡◌, ℕ, ◌<◌, false}
use Rattle.acas_cells.specs.Blocks.{IsInBlock}
use Rattle.acas_cells.specs.Sets.{holds}
use Rattle.acas_audit_blocks.specs.Audits.{reported_at}
use Rattle.acas_audit_blocks.proofs.block_audit.BlockAudit.waits.Given as goal

abbrev pub invariant-loop-i : goal.invariant-loop-i
invariant-loop-i l = record { none : (i j k : ℕ) → i < l.i → IsInBlock l.block i j k → holds (reported_at l.self i j k) l.advice ≡ false }
