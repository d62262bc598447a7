-- What the answers of `audit` are worth.
use Rattle.std.proofs.Common.{ℕ, List, [], sym, ap, subst, ◌∙◌}
use Rattle.std.specs.Prelude.{IfSome}
use Rattle.acas_spec.specs.Model.{ModelData}
use Rattle.acas_outside.specs.Files.{Files}
use Rattle.acas_outside.specs.Outside.{Outside}
use Rattle.acas_report_lines.specs.declared.counts.Which.{Which}
use Rattle.acas_command.specs.Answers.{Agrees, Answers}
use Rattle.acas_command.specs.Called.{MayPrint}
use Rattle.acas_command.specs.Outcome.{Outcome, prints, report_cause}
use Rattle.acas_command.specs.declared.status.Cause.{Cause}
use Rattle.acas_command.specs.declared.status.Cause.TheVariants.{Table as Refused}
use Rattle.acas_command.proofs.Behind.{told-map}
use Rattle.acas_command.proofs.Completed.{completed}
use Rattle.acas_command.proofs.Refused.{not_refused}
use Rattle.acas_command.proofs.Reports.{IsPrinted, report-may_print, report-printed, report-refused}
use Rattle.acas_table_file.proofs.Files.{read-table, rejects-table, tells-advices}
use Rattle.acas_cell_commands.specs.AuditCalls.{CallsForAudit, IsAuditBegun, IsAuditText, audit_looks_at}
use Rattle.acas_report.proofs.Verdicts.{verdicts}
use Rattle.acas_cell_commands.specs.AuditWorth.{AuditIsWorth, PrintsAudit}

prints-audit : (model table : List ℕ) (which : Which) (files : Files) (cause : Cause) (before after : Outside) → IsPrinted (IsAuditText model table which files) files cause before after
    → PrintsAudit model table which files cause before after
prints-audit model table which files cause before after p =
    let m : ModelData = p.report.m in
    let advices = p.report.advices in
    record {
      m = m;
      advices = advices;
      advised = tells-advices model table files m advices p.report.advised;
      counts = p.report.counts;
      text = p.text;
      report = verdicts m advices which p.report.counts p.text p.report.report;
      printed = p.printed;
      kept = p.kept;
      reported = p.ends ∙ ap report_cause p.report.count;
    }

pub audit-worth : (model table : List ℕ) (which : Which) (cause : Cause) (before after : Outside) → Answers (CallsForAudit model table which) cause before after
    → IfSome before.holds (λ files. AuditIsWorth model table which files cause before after)
audit-worth model table which cause before after answers =
    told-map before.holds _ _ (λ files agrees. worth files agrees) answers.told
  where
    looks : Files → Outcome
    looks = audit_looks_at model table

    worth : (files : Files) → Agrees (CallsForAudit model table which) files cause before after → AuditIsWorth model table which files cause before after
    worth files agrees = record {
      printed = λ may. prints-audit model table which files cause before after
          (report-printed looks (IsAuditText model table which) (IsAuditBegun model table which) files cause before after may (completed (CallsForAudit model table which) files cause before after may agrees));
      refused = λ refusal is. rejects-table model table files (λ digest m bytes. prints []) refusal (λ digest m bytes is_refused. subst MayPrint is_refused tt)
          (report-refused looks (IsAuditText model table which) (IsAuditBegun model table which) files (Refused refusal) after (λ never. never)
          (subst (λ (c : Cause). Agrees (CallsForAudit model table which) files c before after) is agrees));
      not_refused = λ m t says.
          not_refused (CallsForAudit model table which) files cause before after
          (λ o may. report-may_print looks (IsAuditText model table which) (IsAuditBegun model table which) files o
          (subst (λ (p : Outcome). MayPrint p.cause) (sym (read-table files model table m t (λ digest n b. prints []) says)) tt) may) answers.has_cause agrees;
    }
