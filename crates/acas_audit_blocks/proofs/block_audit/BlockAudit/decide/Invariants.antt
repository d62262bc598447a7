use Rattle.std.proofs.Common.{◌≡◌, ℕ, ◌+◌, ◌*◌, ◌≤◌}
use Rattle.acas_audit_blocks.specs.Audits.{IsAuditOf}
use Rattle.acas_cells.specs.Blocks.{all_cells, cells_in}
use Rattle.acas_cells.specs.DecisionCounts.{IsSumBelow}
use Rattle.acas_audit_blocks.specs.Decisions.{AreDecisionsUnder}
use Rattle.acas_audit_blocks.proofs.Decided.{IsDecidedBelow}
use Rattle.acas_audit_blocks.proofs.block_audit.BlockAudit.decide.Given as goal

abbrev pub invariant-loop-advice : goal.invariant-loop-advice
invariant-loop-advice l = record {
  audit : IsAuditOf l.model l.self;
  decided : IsDecidedBelow l.model l.advices l.n l.present l.advice l.self;
  counted : (number : ℕ) × IsSumBelow (AreDecisionsUnder l.model l.advices l.n l.present) l.advice number × (l.count ≡ l.fn.count + number);
  most : l.count ≤ l.fn.count + l.advice * (2 * cells_in (all_cells l.model));
}
