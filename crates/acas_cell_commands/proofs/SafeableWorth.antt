-- What the answers of `safeable` are worth.
use Rattle.std.proofs.Common.{ℕ, List, [], sym, ap, subst, ◌∙◌}
use Rattle.std.specs.Prelude.{IfSome}
use Rattle.acas_spec.specs.Model.{ModelData}
use Rattle.acas_outside.specs.Bytes.{Appends}
use Rattle.acas_outside.specs.Files.{Files}
use Rattle.acas_outside.specs.Outside.{Outside}
use Rattle.acas_safeable.specs.declared.counts.SafeCounts.{SafeCounts}
use Rattle.acas_command.specs.Answers.{Agrees, Answers}
use Rattle.acas_command.specs.Called.{MayPrint}
use Rattle.acas_command.specs.Outcome.{Outcome, prints, report_cause}
use Rattle.acas_command.specs.declared.status.Cause.{Cause}
use Rattle.acas_command.specs.declared.status.Cause.TheVariants.{Table as Refused}
use Rattle.acas_command.proofs.Behind.{told-map}
use Rattle.acas_command.proofs.Completed.{completed}
use Rattle.acas_command.proofs.Refused.{not_refused}
use Rattle.acas_command.proofs.Reports.{IsPrinted, report-may_print, report-printed, report-refused}
use Rattle.acas_table_file.proofs.Files.{read-table, rejects-table, tells-advices}
use Rattle.acas_cell_commands.specs.SafeableCalls.{CallsForSafeable, IsSafeableText, IsSafeableTextBegun, safeable_looks_at}
use Rattle.acas_cell_commands.specs.SafeableWorth.{PrintsSafeable, SafeableIsWorth}

prints-safeable : (model table : List ℕ) (files : Files) (cause : Cause) (before after : Outside) → IsPrinted (IsSafeableText model table files) files cause before after
    → PrintsSafeable model table files cause before after
prints-safeable model table files cause before after p =
    let m : ModelData = p.report.m in
    let advices = p.report.advices in
    let r = p.report.report in
    record {
      m = m;
      advices = advices;
      advised = tells-advices model table files m advices p.report.advised;
      found = r.found;
      outlooks = r.outlooks;
      printed = subst (λ (text : List ℕ). Appends before.written after.written text) r.printed p.printed;
      kept = p.kept;
      unshown = p.ends ∙ ap report_cause (p.report.count ∙ ap (λ (counts : SafeCounts). counts.unshown) r.counted);
    }

pub safeable-worth : (model table : List ℕ) (cause : Cause) (before after : Outside) → Answers (CallsForSafeable model table) cause before after
    → IfSome before.holds (λ files. SafeableIsWorth model table files cause before after)
safeable-worth model table cause before after answers =
    told-map before.holds _ _ (λ files agrees. worth files agrees) answers.told
  where
    looks : Files → Outcome
    looks = safeable_looks_at model table

    worth : (files : Files) → Agrees (CallsForSafeable model table) files cause before after → SafeableIsWorth model table files cause before after
    worth files agrees = record {
      printed = λ may. prints-safeable model table files cause before after
          (report-printed looks (IsSafeableText model table) (IsSafeableTextBegun model table) files cause before after may (completed (CallsForSafeable model table) files cause before after may agrees));
      refused = λ refusal is. rejects-table model table files (λ digest m bytes. prints []) refusal (λ digest m bytes is_refused. subst MayPrint is_refused tt)
          (report-refused looks (IsSafeableText model table) (IsSafeableTextBegun model table) files (Refused refusal) after (λ never. never)
          (subst (λ (c : Cause). Agrees (CallsForSafeable model table) files c before after) is agrees));
      not_refused = λ m t says.
          not_refused (CallsForSafeable model table) files cause before after
          (λ o may. report-may_print looks (IsSafeableText model table) (IsSafeableTextBegun model table) files o
          (subst (λ (p : Outcome). MayPrint p.cause) (sym (read-table files model table m t (λ digest n b. prints []) says)) tt) may) answers.has_cause agrees;
    }
