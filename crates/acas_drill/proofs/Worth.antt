-- What the answer of `drill` is worth.
use Rattle.std.proofs.Common.{ℕ, List, [], ap, subst, ◌∙◌}
use Rattle.std.specs.Prelude.{IfSome}
use Rattle.std.specs.Fmt.{decimal}
use Rattle.sha2.specs.Sha256.{sha256}
use Rattle.acas_spec.specs.Limits.{IsModel}
use Rattle.acas_spec.specs.Model.{ModelData}
use Rattle.acas_outside.specs.Bytes.{Appends}
use Rattle.acas_outside.specs.Files.{Files}
use Rattle.acas_outside.specs.Outside.{Outside}
use Rattle.acas_process.specs.Compiled.{compiled}
use Rattle.acas_policies.proofs.BoundLaws.{two_sided_bounds}
use Rattle.acas_policies.proofs.CompiledBounds.{compiled_is_sound, compiled_is_tight}
use Rattle.acas_accept.proofs.CompiledTables.{compiled_is_accepted}
use Rattle.acas_table_text.specs.declared.format.Format.TheVariants.{Layered}
use Rattle.acas_command.specs.Answers.{Answers}
use Rattle.acas_command.specs.Outcome.{Outcome, prints, report_cause}
use Rattle.acas_command.specs.declared.status.Cause.{Cause}
use Rattle.acas_command.proofs.Behind.{told-map}
use Rattle.acas_command.proofs.Refused.{not_refused}
use Rattle.acas_command.proofs.Reports.{IsPrinted, report-may_print, report-printed}
use Rattle.acas_report_lines.specs.declared.counts.Which.TheVariants.{All}
use Rattle.acas_report.proofs.Verdicts.{verdicts}
use Rattle.acas_command.proofs.Completed.{completed}
use Rattle.acas_drill.specs.Calls.{CallsForDrill, EndsDrill, IsDrillBegun, IsDrillText}
use Rattle.acas_drill_model.specs.DrilledModel.{drilled_model}
use Rattle.acas_drill.specs.Worth.{DrillIsWorth, PrintsDrill}
use Rattle.acas_drill_model.proofs.WithinLimits.{model_within}

prints-drill : (number : ℕ) (files : Files) (cause : Cause) (before after : Outside) → IsPrinted (IsDrillText number) files cause before after → PrintsDrill number files cause before after
prints-drill number files cause before after p =
    let m : ModelData = drilled_model number in
    let within : IsModel m = model_within number in
    let drilled = p.report.drilled in
    record {
      within = within;
      t = compiled m;
      bounds = two_sided_bounds m (compiled m) within (compiled_is_sound m within);
      tight = compiled_is_tight m within;
      accepted = compiled_is_accepted m Layered (sha256 (decimal number)) within;
      advices = drilled.advices;
      tabled = drilled.tabled;
      counts = p.report.counts;
      counted = record { text = drilled.counted.text; report = verdicts m drilled.advices All p.report.counts drilled.counted.text drilled.counted.report };
      printed = subst (λ (text : List ℕ). Appends before.written after.written text) p.report.is p.printed;
      kept = p.kept;
      reported = p.ends ∙ ap report_cause p.report.count;
    }

pub drill-worth : (number : ℕ) (cause : Cause) (before after : Outside) → EndsDrill cause → Answers (CallsForDrill number) cause before after
    → IfSome before.holds (λ files. DrillIsWorth number files cause before after)
drill-worth number cause before after ends answers =
    told-map before.holds _ _ (λ files agrees. record {
      printed = λ may. prints-drill number files cause before after
          (report-printed looks (λ files. IsDrillText number) (λ files. IsDrillBegun number) files cause before after may (completed (CallsForDrill number) files cause before after may agrees));
      not_refused = not_refused (CallsForDrill number) files cause before after
          (λ o may. report-may_print looks (λ files. IsDrillText number) (λ files. IsDrillBegun number) files o tt may) answers.has_cause agrees;
      ends = ends;
    }) answers.told
  where
    looks : Files → Outcome
    looks files = prints []
