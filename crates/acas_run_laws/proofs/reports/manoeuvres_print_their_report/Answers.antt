use Rattle.std.proofs.Common.{refl}
use Rattle.acas_doc.specs.declared.input_fault.InputFault.TheVariants.{Rate}
use Rattle.acas_command.specs.declared.status.Cause.TheVariants.{Input}
use Rattle.acas_cli_words.specs.Words.{Manoeuvre}
use Rattle.acas_run_laws.proofs.NotRefused.{worth-form}
use Rattle.acas_run_laws.proofs.reports.manoeuvres_print_their_report.Goals as goal

pub returns : goal.returns
returns c = record {
  printed = λ model boxes accel rate files cause before after told may h.
      let r = (worth-form (Manoeuvre model boxes accel rate) cause files before after told h).printed may in
      (r.m, r.said, r.counts, r.text, r.says, r.rates, r.report, r.printed, r.kept, r.reported);
  rejected = λ model boxes accel rate files fault before after told other h.
      (worth-form (Manoeuvre model boxes accel rate) (Input fault) files before after told h).refused fault refl other;
  unfit = λ model boxes accel rate place files before after told h.
      let r = (worth-form (Manoeuvre model boxes accel rate) (Input (Rate place)) files before after told h).unfit place refl in
      (r.bytes, r.m, r.given, r.said, r.says, r.file, r.boxes_text, r.first);
}
