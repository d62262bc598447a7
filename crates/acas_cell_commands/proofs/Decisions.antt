-- What an audit has counted, by how it ended.
use Rattle.std.proofs.Common.{◌≡◌, ℕ, zero, suc, List, Option, refl}
use Rattle.acas_outside.specs.Files.{Files}
use Rattle.acas_command.specs.Answers.{EndsLooking}
use Rattle.acas_command.specs.Outcome.{report_cause}
use Rattle.acas_command.specs.declared.status.Cause.{Cause}
use Rattle.acas_command.proofs.Printing.{by_printing}
use Rattle.acas_command.proofs.Reports.{may_print-report_cause}
use Rattle.acas_cell_commands.specs.Decisions.{CountsAudit, CountsDecisions}

-- one that ended as it looked at its files, and counted nothing
pub counts-looking : (model table : List ℕ) (holds : Option Files) (cause : Cause) (old new : ℕ) → new ≡ old → EndsLooking cause → CountsAudit model table holds cause old new
counts-looking model table holds cause old new same looks = record {
  decided = λ may. absurd (by_printing (λ c. EndsLooking c → ⊥) cause may (λ never. never) (λ never. never) looks);
  unmoved = λ ends. same;
}

-- one whose whole report is out
pub counts-report : (model table : List ℕ) (holds : Option Files) (reported old new : ℕ) → CountsDecisions model table holds old new → CountsAudit model table holds (report_cause reported) old new
counts-report model table holds reported old new decided = record {
  decided = λ may. decided;
  unmoved = λ looks. absurd (by_printing (λ c. EndsLooking c → ⊥) (report_cause reported) (may_print-report_cause reported) (λ never. never) (λ never. never) looks);
}
