use Rattle.std.proofs.Common.{◌≡◌, ℕ, ◌<◌, ◌≤◌, false, get_or}
use Rattle.acas_cells.specs.Sets.{holds}
use Rattle.acas_audit_blocks.specs.Audits.{no_sets}
use Rattle.acas_audit_blocks.proofs.block_audit.BlockAudit.waits_in_row.Given as goal

abbrev pub invariant-loop-place : goal.invariant-loop-place
invariant-loop-place l = record { none : (p : ℕ) → l.start ≤ p → p < l.place → holds (get_or l.self.sets p no_sets).reported l.advice ≡ false }
