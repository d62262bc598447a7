use Rattle.std.proofs.Common.{refl}
use Rattle.acas_command.specs.declared.status.Cause.TheVariants.{Input}
use Rattle.acas_cli_words.specs.Words.{Regions}
use Rattle.acas_run_laws.proofs.NotRefused.{worth-form}
use Rattle.acas_run_laws.proofs.reports.regions_print_their_report.Goals as goal

pub returns : goal.returns
returns c = record {
  printed = λ model boxes files cause before after told may h.
      let r = (worth-form (Regions model boxes) cause files before after told h).printed may in
      (r.m, r.said, r.counts, r.text, r.says, r.report, r.printed, r.kept, r.reported);
  rejected = λ model boxes files fault before after told h. (worth-form (Regions model boxes) (Input fault) files before after told h).refused fault refl;
}
